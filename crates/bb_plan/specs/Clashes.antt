-- Which registers hold leaves of a register's lines, and which sessions list both. No public contract cites this.
use Rattle.std.specs.Prelude.{ℕ, Bool, ◌==◌, List, [], if◌then◌else◌, map, slice_index_or}
use Rattle.std.specs.List.{list_any, flat_map}
use Rattle.bb_terms.specs.Plan.{lists_register}
use Rattle.bb_plan.specs.declared.chain.Link.{Link}
use Rattle.bb_plan.specs.Chain.{register_of_cell}
use Rattle.bb_plan.specs.Layout.{LineValue}

-- the registers of the sources of a line in this register
abbrev pub feeders_of_line : List Link → ℕ → LineValue → List ℕ
feeders_of_line links r line = if register_of_cell links line.cell == r then map (register_of_cell links) line.sources else []

-- the registers of the sources of all lines in this register
abbrev pub feeders_in : List Link → List LineValue → ℕ → List ℕ
feeders_in links lines r = flat_map (feeders_of_line links r) lines

-- the entry of a register
abbrev pub feeders_at : List (List ℕ) → ℕ → List ℕ
feeders_at table r = slice_index_or table r []

-- a register that the session lists holds a leaf of a line in one that it lists
abbrev pub session_clashes : List (List ℕ) → List ℕ → Bool
session_clashes table session = list_any (λ r. list_any (λ q. lists_register q session) (feeders_at table r)) session
