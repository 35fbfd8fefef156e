-- The support of a line: its leaves in ascending order.
use Rattle.std.specs.Prelude.{◌≡◌, ◌↔◌, ℕ, ◌<◌, Bool, true, List, length, Option, Some, slice_get, slice_index_or, Contains}
use Rattle.std.specs.Option.{option_map}
use Rattle.std.specs.List.Sorted.{IsStrictlyIncreasing}
use Rattle.bb_base.specs.Net.{Gate, Netlist, driven}
use Rattle.bb_terms.specs.Paths.{Start, AtNet, Behind, IsLeaf}
use Rattle.bb_terms.specs.declared.start.Start.{Start as CodeStart}
use Rattle.bb_terms.specs.declared.start.Start.TheVariants.{Net, Gate as GateNumber}

-- the table's answer whether a net is a stop
abbrev pub stop_at : List Bool → ℕ → Bool
stop_at stops net = slice_index_or stops net true

-- the start that the code's start means, where its gate exists
abbrev pub start_in : List (Gate ℕ) → CodeStart → Option (Start ℕ)
start_in gates (Net net) = Some (AtNet net)
start_in gates (GateNumber number) = option_map Behind (slice_get gates number)

-- the leaves of a start are these, in ascending order
pub record AreLeaves (gates : List (Gate ℕ)) (stop : ℕ → Bool) (start : Start ℕ) (leaves : List ℕ) : Type 0 where
  pub ascending : IsStrictlyIncreasing leaves
  pub each : (net : ℕ) → Contains leaves net ↔ IsLeaf gates stop start net

-- the start's net or gate exists
abbrev pub StartExists : Netlist ℕ → CodeStart → Type 0
StartExists n (Net net) = net < length (driven n)
StartExists n (GateNumber number) = number < length n.gates

-- these are the leaves of the start that the code's start means
pub record HasLeaves (gates : List (Gate ℕ)) (stops : List Bool) (start : CodeStart) (leaves : List ℕ) : Type 0 where
  pub from : Start ℕ
  pub stands : start_in gates start ≡ Some from
  pub are : AreLeaves gates (stop_at stops) from leaves
