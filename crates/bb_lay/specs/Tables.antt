-- The rows of the cells by tables: what is read of each net, and the d of each flip-flop. No public contract cites this.
use Rattle.std.specs.Prelude.{◌≡◌, ℕ, ◌+◌, ◌<◌, ◌==◌, ◌&&◌, suc, List, [], ◌∷◌, ◌++◌, length, map, if◌then◌else◌, Some, slice_get, slice_index, slice_index_or}
use Rattle.bb_base.specs.declared.operator.Op.TheVariants.{And, Or, Xor}
use Rattle.bb_base.specs.Net.{Gate, Flop, Netlist, driven}
use Rattle.bb_base.specs.Bits.{picked}
use Rattle.bb_terms.specs.declared.plan.Cell.{Cell}
use Rattle.bb_terms.specs.declared.kind.Kind.{Kind}
use Rattle.bb_terms.specs.declared.kind.Kind.TheVariants.{Input, State, Split, Cut, Watch, Output}
use Rattle.bb_terms.specs.Kinds.{is_source, has_line, is_behind}
use Rattle.bb_terms.specs.Lines.{d_of}
use Rattle.bb_terms.specs.Plan.{RegisterValue, PlanValue}
use Rattle.bb_terms.specs.declared.wire.Wire.{Wire}
use Rattle.bb_terms.specs.declared.wire.Wire.TheVariants.{Kept, Test, NotTest, Latches, Takes, Codes, First, Line, Chain, Code, Coded, Next, InTest, InNormal, Read, Held}
use Rattle.bb_terms.specs.Controller.{gate_row}
use Rattle.bb_terms.specs.Reads.{q_of, read}
use Rattle.bb_written.specs.Cells.{when, xor_row, next_terms}

-- what is read of a net of which this was read, once these cells stand behind their nets, of which the first has number i
abbrev pub read_past : ℕ → List Cell → ℕ → Wire → Wire
read_past i [] net old = old
read_past i (c ∷ cells) net old = if is_behind c.kind && (c.net == net) then Read i else read_past (suc i) cells net old

-- the d of the flip-flop with this q, where this stands for the others
abbrev pub d_over : List (Flop ℕ) → ℕ → ℕ → ℕ
d_over [] net old = old
d_over (f ∷ flops) net old = if f.q == net then f.d else d_over flops net old

-- the tables have what is read of each net, and the d of each flip-flop by its q
pub record AreTables (a : Netlist ℕ) (p : PlanValue) (reads : List Wire) (ds : List ℕ) : Type 0 where
  pub reads_long : length reads ≡ length (driven a)
  pub reads_are : (net : ℕ) → net < length (driven a) → slice_get reads net ≡ Some (read p net)
  pub ds_long : length ds ≡ length (driven a)
  pub ds_are : (net : ℕ) → net < length (driven a) → slice_get ds net ≡ Some (d_of a.flops net)
  pub inside : (net : ℕ) → net < length (driven a) → d_of a.flops net < length (driven a)

-- the line of a cell of this kind on a net, by the tables
abbrev pub line_in : List Wire → List ℕ → Kind → ℕ → Wire
line_in reads ds State net = slice_index_or reads (slice_index ds net) Test
line_in reads ds Split net = slice_index_or reads (slice_index ds net) Test
line_in reads ds Watch net = slice_index_or reads (slice_index ds net) Test
line_in reads ds Cut net = Kept net
line_in reads ds Output net = Kept net
line_in reads ds Input net = Kept net

-- the rows of cell i of register r, behind this cell and with this line
abbrev pub rows_of_cell : List Wire → ℕ → ℕ → Wire → Wire → Cell → List (Gate Wire)
rows_of_cell ahead r i before line c =
    when (has_line c.kind) (gate_row And (Line i) (Latches r ∷ line ∷ []) ∷ [])
    ++ (gate_row And (Chain i) (Takes r ∷ before ∷ [])
    ∷ (when (is_source c.kind) (xor_row (Code i) (picked c.column ahead) ∷ gate_row And (Coded i) (Codes r ∷ Code i ∷ []) ∷ [])
    ++ (gate_row Xor (Next i) (next_terms c.kind i)
    ∷ when (is_behind c.kind) (gate_row And (InTest i) (Test ∷ Held i ∷ []) ∷ gate_row And (InNormal i) (NotTest ∷ Kept c.net ∷ []) ∷ gate_row Or (Read i) (InTest i ∷ InNormal i ∷ []) ∷ []))))

-- the rows of these cells of a register, with lines by the tables
abbrev pub rows_in : List Wire → List ℕ → List Wire → ℕ → ℕ → Wire → List Cell → List (Gate Wire)
rows_in reads ds ahead r i before [] = []
rows_in reads ds ahead r i before (c ∷ cells) = rows_of_cell ahead r i before (line_in reads ds c.kind c.net) c ++ rows_in reads ds ahead r (suc i) (q_of i c) cells

-- the rows of the cells of these registers
abbrev pub all_rows_in : List Wire → List ℕ → List Wire → ℕ → ℕ → List RegisterValue → List (Gate Wire)
all_rows_in reads ds ahead r i [] = []
all_rows_in reads ds ahead r i (g ∷ registers) = rows_in reads ds ahead r i (First r) g.cells ++ all_rows_in reads ds ahead (suc r) (i + length g.cells) registers

-- the cells are on nets
abbrev pub IsOn : ℕ → Cell → Type 0
IsOn nets c = c.net < nets

-- what is read of a net, by the table
abbrev pub read_in_table : List Wire → ℕ → Wire
read_in_table reads net = slice_index_or reads net Test

-- a gate of the original that reads by the table
abbrev pub row_behind : List Wire → Gate ℕ → Gate Wire
row_behind reads g = gate_row g.op (Kept g.out) (map (read_in_table reads) g.ins)
