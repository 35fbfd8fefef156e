-- What stands where in the written netlist: each cell's bit, what is read of a net of the original, and each cell's line.
use Rattle.std.specs.Prelude.{ℕ, suc, List, [], ◌∷◌, ◌&&◌, ◌==◌, if◌then◌else◌}
use Rattle.bb_base.specs.Net.{Netlist}
use Rattle.bb_terms.specs.declared.plan.Cell.{Cell}
use Rattle.bb_terms.specs.declared.kind.Kind.{Kind}
use Rattle.bb_terms.specs.declared.kind.Kind.TheVariants.{Input, State, Split, Cut, Watch, Output}
use Rattle.bb_terms.specs.Kinds.{is_behind}
use Rattle.bb_terms.specs.Plan.{PlanValue, chain}
use Rattle.bb_terms.specs.Lines.{d_of}
use Rattle.bb_terms.specs.declared.wire.Wire.{Wire}
use Rattle.bb_terms.specs.declared.wire.Wire.TheVariants.{Kept, Read, Held}

-- the bit of cell i, which for a State or Split cell is the flip-flop's
abbrev pub q_by : Kind → ℕ → ℕ → Wire
q_by State net i = Kept net
q_by Split net i = Kept net
q_by Input net i = Held i
q_by Cut net i = Held i
q_by Watch net i = Held i
q_by Output net i = Held i

abbrev pub q_of : ℕ → Cell → Wire
q_of i c = q_by c.kind c.net i

-- the bits of these cells, of which the first has number i
abbrev pub qs_from : ℕ → List Cell → List Wire
qs_from i [] = []
qs_from i (c ∷ cells) = q_of i c ∷ qs_from (suc i) cells

-- what is read of a net behind these cells, of which the first has number i
abbrev pub read_behind : ℕ → List Cell → ℕ → Wire
read_behind i [] net = Kept net
read_behind i (c ∷ cells) net = if is_behind c.kind && (c.net == net) then Read i else read_behind (suc i) cells net

-- what is read of a net of the original
abbrev pub read : PlanValue → ℕ → Wire
read p net = read_behind 0 (chain p) net

-- the line of a cell of this kind on a net
abbrev pub line_by : Kind → Netlist ℕ → PlanValue → ℕ → Wire
line_by State a p net = read p (d_of a.flops net)
line_by Split a p net = read p (d_of a.flops net)
line_by Watch a p net = read p (d_of a.flops net)
line_by Cut a p net = Kept net
line_by Output a p net = Kept net
line_by Input a p net = Kept net

abbrev pub line : Netlist ℕ → PlanValue → Cell → Wire
line a p c = line_by c.kind a p c.net
