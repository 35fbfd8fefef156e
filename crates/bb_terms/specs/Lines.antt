-- The lines of a plan's cells in the original netlist, where walks back from them stop, and the source cells there.
use Rattle.std.specs.Prelude.{◌≡◌, ℕ, suc, Bool, ◌&&◌, ◌==◌, List, [], ◌∷◌, map, filter, if◌then◌else◌, Option, None, Some, Contains}
use Rattle.bb_base.specs.Net.{Gate, Flop, Netlist}
use Rattle.bb_terms.specs.Cuts.{is_stop_with}
use Rattle.bb_terms.specs.Paths.{Start, AtNet, Behind, IsLeaf}
use Rattle.bb_terms.specs.declared.kind.Kind.{Kind}
use Rattle.bb_terms.specs.declared.kind.Kind.TheVariants.{Input, State, Split, Cut, Watch, Output}
use Rattle.bb_terms.specs.declared.plan.Cell.{Cell}
use Rattle.bb_terms.specs.Kinds.{is_source, is_cut}
use Rattle.bb_terms.specs.Plan.{RegisterValue, PlanValue, chain}

-- the d of the flip-flop with this q, and the net itself where there is none
abbrev pub d_of : List (Flop ℕ) → ℕ → ℕ
d_of [] net = net
d_of (f ∷ flops) net = if f.q == net then f.d else d_of flops net

-- the nets of the Cut cells, in the order of the chain
abbrev pub cut_nets : PlanValue → List ℕ
cut_nets p = map (λ c. c.net) (filter (λ c. is_cut c.kind) (chain p))

-- a walk stops at inputs and q's, which no gate drives, and at the cut nets
abbrev pub is_stop : Netlist ℕ → PlanValue → ℕ → Bool
is_stop a p net = is_stop_with a.gates (cut_nets p) net

-- the walk starts behind the gate that drives the net
abbrev pub StartsBehind : Netlist ℕ → ℕ → Start ℕ → Type 0
StartsBehind a net start = (g : Gate ℕ) × Contains a.gates g × (g.out ≡ net) × (start ≡ Behind g)

-- where the walk back from the line of such a cell starts
abbrev pub IsStartOf : Netlist ℕ → Kind → ℕ → Start ℕ → Type 0
IsStartOf a Input net start = ⊥
IsStartOf a State net start = start ≡ AtNet (d_of a.flops net)
IsStartOf a Split net start = start ≡ AtNet (d_of a.flops net)
IsStartOf a Cut net start = StartsBehind a net start
IsStartOf a Watch net start = start ≡ AtNet (d_of a.flops net)
IsStartOf a Output net start = StartsBehind a net start

abbrev pub IsStart : Netlist ℕ → Cell → Start ℕ → Type 0
IsStart a c start = IsStartOf a c.kind c.net start

-- the net is a leaf of the cell's line
pub record IsLeafOf (a : Netlist ℕ) (p : PlanValue) (c : Cell) (net : ℕ) : Type 0 where
  pub start : Start ℕ
  pub begins : IsStart a c start
  pub leaf : IsLeaf a.gates (is_stop a p) start net

-- the source cell of a net among these
abbrev pub source_in : List Cell → ℕ → Option Cell
source_in [] net = None
source_in (c ∷ cells) net = if is_source c.kind && (c.net == net) then Some c else source_in cells net

abbrev pub or_later : Option Cell → ℕ → Option (ℕ × Cell) → Option (ℕ × Cell)
or_later None r later = later
or_later (Some c) r later = Some (r, c)

-- the register of the net's source cell and that cell, the first register being r
abbrev pub source_from : ℕ → List RegisterValue → ℕ → Option (ℕ × Cell)
source_from r [] net = None
source_from r (g ∷ registers) net = or_later (source_in g.cells net) r (source_from (suc r) registers net)

abbrev pub source_of : PlanValue → ℕ → Option (ℕ × Cell)
source_of p net = source_from 0 p.registers net

-- the column of the net's source cell, 0 without one
abbrev pub column_in : Option (ℕ × Cell) → ℕ
column_in None = 0
column_in (Some source) = source.1.column

abbrev pub column_of : PlanValue → ℕ → ℕ
column_of p net = column_in (source_of p net)
