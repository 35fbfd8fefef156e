-- The rows of the cells, and all flip-flops.
use Rattle.std.specs.Prelude.{ℕ, ◌+◌, zero, suc, Bool, true, false, List, [], ◌∷◌, ◌++◌, length}
use Rattle.bb_base.specs.declared.operator.Op.TheVariants.{And, Or, Xor, Zero}
use Rattle.bb_base.specs.Net.{Gate, Flop, Netlist}
use Rattle.bb_base.specs.Bits.{picked}
use Rattle.bb_terms.specs.declared.plan.Cell.{Cell}
use Rattle.bb_terms.specs.declared.kind.Kind.{Kind}
use Rattle.bb_terms.specs.declared.kind.Kind.TheVariants.{Input, State, Split, Cut, Watch, Output}
use Rattle.bb_terms.specs.Kinds.{is_source, has_line, is_behind}
use Rattle.bb_terms.specs.Plan.{PlanValue, RegisterValue, chain}
use Rattle.bb_terms.specs.declared.wire.Wire.{Wire}
use Rattle.bb_terms.specs.declared.wire.Wire.TheVariants.{Kept, Test, NotTest, Word, WordNext, Phase, PhaseNext, Ring, RingNext, Latches, Takes, Codes, First, Line, Chain, Code, Coded, Next, InTest, InNormal, Read, Held}
use Rattle.bb_terms.specs.Reads.{q_of, line}
use Rattle.bb_terms.specs.Controller.{gate_row, word_ahead}

-- these rows, or none
abbrev pub when : Bool → List (Gate Wire) → List (Gate Wire)
when true rows = rows
when false rows = []

-- an exclusive or, which of no wires is the constant 0
abbrev pub xor_row : Wire → List Wire → Gate Wire
xor_row out [] = gate_row Zero out []
xor_row out (w ∷ ws) = gate_row Xor out (w ∷ ws)

-- the parts of what cell i takes
abbrev pub next_terms : Kind → ℕ → List Wire
next_terms Input i = Chain i ∷ Coded i ∷ []
next_terms State i = Line i ∷ Chain i ∷ Coded i ∷ []
next_terms Split i = Line i ∷ Chain i ∷ Coded i ∷ []
next_terms Cut i = Line i ∷ Chain i ∷ Coded i ∷ []
next_terms Watch i = Line i ∷ Chain i ∷ []
next_terms Output i = Line i ∷ Chain i ∷ []

-- the rows of cell i of register r, behind this cell
abbrev pub cell_rows : Netlist ℕ → PlanValue → ℕ → ℕ → Wire → Cell → List (Gate Wire)
cell_rows a p r i before c =
    when (has_line c.kind) (gate_row And (Line i) (Latches r ∷ line a p c ∷ []) ∷ [])
    ++ (gate_row And (Chain i) (Takes r ∷ before ∷ [])
    ∷ (when (is_source c.kind) (xor_row (Code i) (picked c.column (word_ahead p)) ∷ gate_row And (Coded i) (Codes r ∷ Code i ∷ []) ∷ [])
    ++ (gate_row Xor (Next i) (next_terms c.kind i)
    ∷ when (is_behind c.kind) (gate_row And (InTest i) (Test ∷ Held i ∷ []) ∷ gate_row And (InNormal i) (NotTest ∷ Kept c.net ∷ []) ∷ gate_row Or (Read i) (InTest i ∷ InNormal i ∷ []) ∷ []))))

-- the rows of these cells of register r, of which the first has number i and stands behind this one
abbrev pub rows_of_cells : Netlist ℕ → PlanValue → ℕ → ℕ → Wire → List Cell → List (Gate Wire)
rows_of_cells a p r i before [] = []
rows_of_cells a p r i before (c ∷ cells) = cell_rows a p r i before c ++ rows_of_cells a p r (suc i) (q_of i c) cells

-- the rows of the cells of these registers, the first being r and its first cell i
abbrev pub all_cells_from : Netlist ℕ → PlanValue → ℕ → ℕ → List RegisterValue → List (Gate Wire)
all_cells_from a p r i [] = []
all_cells_from a p r i (g ∷ registers) = rows_of_cells a p r i (First r) g.cells ++ all_cells_from a p (suc r) (i + length g.cells) registers

abbrev pub flop : Wire → Wire → Flop Wire
flop q d = record { q = q; d = d }

abbrev pub word_flops : ℕ → ℕ → List (Flop Wire)
word_flops i zero = []
word_flops i (suc more) = flop (Word i) (WordNext i) ∷ word_flops (suc i) more

abbrev pub ring_flops : ℕ → ℕ → List (Flop Wire)
ring_flops s zero = flop (Ring s) (RingNext s) ∷ []
ring_flops s (suc more) = flop (Ring s) (RingNext s) ∷ ring_flops (suc s) more

abbrev pub cell_flops : ℕ → List Cell → List (Flop Wire)
cell_flops i [] = []
cell_flops i (c ∷ cells) = flop (q_of i c) (Next i) ∷ cell_flops (suc i) cells

-- the flip-flops in the order of their statements
abbrev pub flops : PlanValue → List (Flop Wire)
flops p = word_flops 0 p.degree ++ (flop Phase PhaseNext ∷ (ring_flops 0 (length p.sessions) ++ cell_flops 0 (chain p)))
