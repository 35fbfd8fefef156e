-- The bits of all nets at a state of the complete register, and the table from which sources have theirs. No public contract cites this.
use Rattle.std.specs.Prelude.{◌≡◌, ℕ, ◌<◌, ◌&&◌, ◌==◌, Bool, true, false, List, [], ◌∷◌, length, if◌then◌else◌, Option, None, Some, slice_index_or, Contains}
use Rattle.bb_base.specs.Net.{Gate, Netlist, driven}
use Rattle.bb_base.specs.Run.{Meets}
use Rattle.bb_terms.specs.declared.plan.Cell.{Cell}
use Rattle.bb_terms.specs.Kinds.{is_source}
use Rattle.bb_terms.specs.Plan.{PlanValue}
use Rattle.bb_terms.specs.Lines.{is_stop, column_of}
use Rattle.bb_terms.specs.Signatures.{code_at}

-- the column that a table has for a net
abbrev pub noted_column : List (Option ℕ) → ℕ → Option ℕ
noted_column columns net = slice_index_or columns net None

-- the column that gives a net its bit, where the net is a stop
abbrev pub read_column : Netlist ℕ → PlanValue → ℕ → Option ℕ
read_column a p net = if is_stop a p net then Some (column_of p net) else None

-- the table has it for each net
pub record AreReadColumns (a : Netlist ℕ) (p : PlanValue) (columns : List (Option ℕ)) : Type 0 where
  pub long : length columns ≡ length (driven a)
  pub each : (net : ℕ) → net < length (driven a) → noted_column columns net ≡ read_column a p net

-- the column of the last source cell on a net, and the entry before where there is none
abbrev pub last_column : List Cell → ℕ → Option ℕ → Option ℕ
last_column [] net before = before
last_column (c ∷ cells) net before = last_column cells net (if is_source c.kind && (c.net == net) then Some c.column else before)

-- stops have their code bits, and the other nets what their gates give
pub record AreBitsAt (a : Netlist ℕ) (p : PlanValue) (state : ℕ) (v : ℕ → Bool) : Type 0 where
  pub coded : (net : ℕ) → net < length (driven a) → is_stop a p net ≡ true → v net ≡ code_at p state net
  pub met : (g : Gate ℕ) → Contains a.gates g → is_stop a p g.out ≡ false → Meets v g
