-- The rows of a valid plan can be added where each driven symbol has a net.
use Rattle.std.proofs.Common.{arith, ◌≡◌, ℕ, ◌+◌, ◌<◌, ◌≤◌, suc, List, [], ◌∷◌, ◌++◌, map, length, length-append, Bool, true, false, refl, sym, ap, subst, ◌∙◌, Contains}
use Rattle.std.proofs.lemmas.List.Elements.{recursion_from_All}
use Rattle.std.specs.List.{AllByRecursion}
use Rattle.bb_base.specs.Operators.{IsArity}
use Rattle.bb_base.proofs.Contained.{to_all, both_all}
use Rattle.bb_base.proofs.Lists.{all_front, all_back, all_join, all_map, length_map}
use Rattle.bb_base.specs.Net.{Gate, Flop, Netlist, driven, HasArity}
use Rattle.bb_base.specs.Named.{Named, IsNamed}
use Rattle.bb_terms.specs.declared.plan.Cell.{Cell}
use Rattle.bb_terms.specs.declared.kind.Kind.{Kind}
use Rattle.bb_terms.specs.declared.kind.Kind.TheVariants.{Input, State, Split, Cut, Watch, Output}
use Rattle.bb_terms.specs.Kinds.{is_source, has_line, is_behind}
use Rattle.bb_terms.specs.Plan.{PlanValue, RegisterValue, chain}
use Rattle.bb_terms.specs.Valid.{IsValidPlan}
use Rattle.bb_base.specs.Bits.{picked}
use Rattle.bb_base.specs.declared.operator.Op.TheVariants.{And, Or, Xor}
use Rattle.bb_terms.specs.declared.wire.Wire.{Wire}
use Rattle.bb_terms.specs.declared.wire.Wire.TheVariants.{Kept, Test, NotTest, Latches, Takes, Codes, First, Line, Chain, Code, Coded, Next, InTest, InNormal, Read, Held}
use Rattle.bb_terms.specs.Controller.{gate_row, word_ahead}
use Rattle.bb_terms.specs.Reads.{q_of, read, line}
use Rattle.bb_terms.specs.Registers.{control_rows}
use Rattle.bb_terms.specs.Numbering.{wires_in, HasWire, HasDistinctNets}
use Rattle.bb_written.specs.Cells.{when, xor_row, next_terms, cell_rows, rows_of_cells, all_cells_from, flops}
use Rattle.bb_written.specs.Written.{test_gates, written_gate, written_netlist}
use Rattle.bb_written.proofs.Rising.{q_in}
use Rattle.bb_written.proofs.Reached.{RowHolds, HoldsOfDriven, cells_are, d_in, ds_hold}
use Rattle.bb_written.proofs.Driven.{d_inside, holds, rows_all}
use Rattle.bb_written.proofs.Few.{are_few}
use Rattle.bb_written.proofs.Sizes.{ahead_long, gates_long, flops_long}
use Rattle.bb_lay.specs.Laying.{HasBothWires}
use Rattle.bb_lay.specs.RowsOf.{AreRows}
use Rattle.bb_lay.specs.declared.rows.Rows.{Rows}
use Rattle.bb_weave.specs.Filling.{CanFill}

-- each row has as many inputs as its operator takes
two : 0 < 2
two = omega arith

when_all : (b : Bool) (rows : List (Gate Wire)) → AllByRecursion HasArity rows → AllByRecursion HasArity (when b rows)
when_all true rows h = h
when_all false rows h = tt

xor_arity : (w : Wire) (ws : List Wire) → HasArity (xor_row w ws)
xor_arity w [] = refl
xor_arity w (v ∷ vs) = omega arith

next_arity : (k : Kind) (i : ℕ) → 0 < length (next_terms k i)
next_arity Input i = omega arith
next_arity State i = omega arith
next_arity Split i = omega arith
next_arity Cut i = omega arith
next_arity Watch i = omega arith
next_arity Output i = omega arith

cell_arities : (a : Netlist ℕ) (p : PlanValue) (r i : ℕ) (before : Wire) (c : Cell) → AllByRecursion HasArity (cell_rows a p r i before c)
cell_arities a p r i before c =
    let lines : List (Gate Wire) = gate_row And (Line i) (Latches r ∷ line a p c ∷ []) ∷ [] in
    let codes : List (Gate Wire) = xor_row (Code i) (picked c.column (word_ahead p)) ∷ gate_row And (Coded i) (Codes r ∷ Code i ∷ []) ∷ [] in
    let reads : List (Gate Wire) = gate_row And (InTest i) (Test ∷ Held i ∷ []) ∷ gate_row And (InNormal i) (NotTest ∷ Kept c.net ∷ []) ∷ gate_row Or (Read i) (InTest i ∷ InNormal i ∷ []) ∷ [] in
    let last : List (Gate Wire) = gate_row Xor (Next i) (next_terms c.kind i) ∷ when (is_behind c.kind) reads in
    all_join HasArity (when (has_line c.kind) lines) (gate_row And (Chain i) (Takes r ∷ before ∷ []) ∷ (when (is_source c.kind) codes ++ last)) (when_all (has_line c.kind) lines (two, tt))
    (two, all_join HasArity (when (is_source c.kind) codes) last (when_all (is_source c.kind) codes (xor_arity (Code i) (picked c.column (word_ahead p)), (two, tt))) (next_arity c.kind i, when_all (is_behind c.kind) reads (two, (two, (two, tt)))))

register_arities : (a : Netlist ℕ) (p : PlanValue) (r i : ℕ) (before : Wire) (cs : List Cell) → AllByRecursion HasArity (rows_of_cells a p r i before cs)
register_arities a p r i before [] = tt
register_arities a p r i before (c ∷ cs) = all_join HasArity (cell_rows a p r i before c) (rows_of_cells a p r (suc i) (q_of i c) cs) (cell_arities a p r i before c) (register_arities a p r (suc i) (q_of i c) cs)

all_cell_arities : (a : Netlist ℕ) (p : PlanValue) (r i : ℕ) (gs : List RegisterValue) → AllByRecursion HasArity (all_cells_from a p r i gs)
all_cell_arities a p r i [] = tt
all_cell_arities a p r i (g ∷ gs) = all_join HasArity (rows_of_cells a p r i (First r) g.cells) (all_cells_from a p (suc r) (i + length g.cells) gs) (register_arities a p r i (First r) g.cells) (all_cell_arities a p (suc r) (i + length g.cells) gs)

own_arities : (p : PlanValue) (gs : List (Gate ℕ)) → AllByRecursion HasArity gs → AllByRecursion HasArity (map (written_gate p) gs)
own_arities p [] h = tt
own_arities p (g ∷ gs) h = (subst (IsArity g.op) (sym (length_map (read p) g.ins)) h.0, own_arities p gs h.1)

-- the rows' nets, in one list
in_rows : (P : Wire → Type 0) (rows : List (Gate Wire)) → AllByRecursion (RowHolds P) rows → AllByRecursion P (wires_in rows)
in_rows P [] h = tt
in_rows P (g ∷ rows) h = (h.0.0, all_join P g.ins (wires_in rows) h.0.1 (in_rows P rows h.1))

pub can_fill : (a b : Named) (p : PlanValue) (kept : List ℕ) (rows : Rows) → IsNamed a → IsValidPlan a.netlist p → AreRows a.netlist p rows → HasDistinctNets b → ((w : Wire) → Contains (driven (written_netlist a.netlist p)) w → HasWire b kept w)
    → length a.netlist.gates ≤ 2097152 → b.netlist.gates ≡ [] → b.netlist.flops ≡ [] → CanFill b kept p rows
can_fill a b p kept rows named valid r distinct found few no_gates no_flops =
    let P : Wire → Type 0 = HasWire b kept in
    let own : List (Gate Wire) = map (written_gate p) a.netlist.gates in
    let cells : List (Gate Wire) = all_cells_from a.netlist p 0 0 p.registers in
    let drivers : List Wire = driven (written_netlist a.netlist p) in
    let all : AllByRecursion P drivers = to_all P drivers found in
    let whole : AllByRecursion (RowHolds P) (own ++ test_gates a.netlist p) = rows_all a.netlist p named.netlist valid P all in
    let added : AllByRecursion (RowHolds P) (control_rows p ++ cells) = all_back (RowHolds P) own (test_gates a.netlist p) whole in
    let outs : List Wire = map (λ (g : Gate Wire). g.out) (written_netlist a.netlist p).gates in
    let qs : AllByRecursion P (map q_in (flops p)) = all_back P outs (map q_in (flops p)) (all_back P (written_netlist a.netlist p).inputs (outs ++ map q_in (flops p)) all) in
    let h : HoldsOfDriven P a.netlist p = holds a.netlist p named.netlist valid P all in
    let ds : AllByRecursion P (map d_in (flops p)) = ds_hold P a.netlist p h (d_inside a.netlist named.netlist) (ahead_long p) in
    let both : AllByRecursion (HasBothWires b kept) (flops p) =
    both_all (λ (f : Flop Wire). P f.q) (λ (f : Flop Wire). P f.d) (flops p) (all_map P (λ (f : Flop Wire). P f.q) q_in (λ f k. k) (flops p) qs) (all_map P (λ (f : Flop Wire). P f.d) d_in (λ f k. k) (flops p) ds) in
    let small = are_few a.netlist p valid in
    let no_gate : length b.netlist.gates ≡ 0 = ap length no_gates in
    let no_flop : length b.netlist.flops ≡ 0 = ap length no_flops in
    let kept_long : length rows.kept.items ≡ length a.netlist.gates = ap length r.kept ∙ length_map (written_gate p) a.netlist.gates in
    let cells_long : length rows.cells.items ≡ length cells = ap length r.cells in
    let flops_are_long : length rows.flops.items ≡ length (flops p) = ap length r.flops_are in
    let added_long : length (test_gates a.netlist p) ≡ length (control_rows p) + length cells = length-append (control_rows p) cells in
    let added_few = gates_long a.netlist p in
    record {
      distinct = distinct;
      kept_stand = subst (λ gs. AllByRecursion P (wires_in gs)) (sym r.kept) (in_rows P own (all_front (RowHolds P) own (test_gates a.netlist p) whole));
      control_stand = in_rows P (control_rows p) (all_front (RowHolds P) (control_rows p) cells added);
      cells_stand = subst (λ gs. AllByRecursion P (wires_in gs)) (sym r.cells) (in_rows P cells (all_back (RowHolds P) (control_rows p) cells added));
      flops_stand = subst (AllByRecursion (HasBothWires b kept)) (sym r.flops_are) both;
      qs_stand = subst (AllByRecursion P) (cells_are 0 (chain p)) h.cells;
      kept_arities = subst (AllByRecursion HasArity) (sym r.kept) (own_arities p a.netlist.gates (recursion_from_All HasArity a.netlist.gates named.consistent.arities));
      cell_arities = subst (AllByRecursion HasArity) (sym r.cells) (all_cell_arities a.netlist p 0 0 p.registers);
      few_kept = omega (arith, no_gate, kept_long, few);
      few_cells = omega (arith, no_gate, kept_long, few, cells_long, added_long, added_few, small.degree, small.cells, small.registers, small.sessions);
      few_flops = omega (arith, no_flop, flops_are_long, flops_long p, small.degree, small.cells, small.sessions);
    }
