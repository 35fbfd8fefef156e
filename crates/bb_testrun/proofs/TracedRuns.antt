-- test runs are added traces
use Rattle.std.proofs.Common.{◌≡◌, ℕ, ◌+◌, ◌<◌, zero, suc, List, [], ◌∷◌, length, map, Bool, true, false, refl, ◌∙◌, arith, Option, Some, None}
use Rattle.std.specs.List.{AllByRecursion}
use Rattle.bb_base.specs.Net.{Gate, Netlist}
use Rattle.bb_terms.specs.Change.{Change, gives_by, by_table}
use Rattle.bb_base.specs.Run.{Meets, at}
use Rattle.bb_terms.specs.OnBits.{front}
use Rattle.bb_terms.specs.Controller.{register_word, word_ahead, low_row, out_row, word_rows, ring_rows, ring_rows_from, controller, last_q}
use Rattle.bb_terms.specs.Reads.{q_of, qs_from, read}
use Rattle.bb_terms.specs.Registers.{pass_row, carry_row, rows_of_register, registers_from}
use Rattle.bb_terms.specs.declared.wire.Wire.{Wire}
use Rattle.bb_terms.specs.declared.wire.Wire.TheVariants.{Kept, Test, Init, Code, First}
use Rattle.bb_base.specs.Bits.{picked}
use Rattle.bb_base.specs.Operators.{op_gives}
use Rattle.bb_base.specs.Run.{MeetsBy, IsRunBy}
use Rattle.bb_terms.specs.Plan.{RegisterValue, PlanValue, sessions_of}
use Rattle.bb_terms.specs.declared.plan.Cell.{Cell}
use Rattle.bb_terms.specs.declared.kind.Kind.{Kind}
use Rattle.bb_terms.specs.declared.kind.Kind.TheVariants.{Input, State, Split, Cut, Watch, Output}
use Rattle.bb_written.specs.Cells.{xor_row, cell_rows, rows_of_cells, all_cells_from, flops}
use Rattle.bb_written.specs.Trace.{TakesBit}
use Rattle.bb_testrun.specs.Traced.{on_wires, IsTestOf, TestsAreTraces}
use Rattle.bb_written.specs.Written.{test_gates, written_gate, written_netlist}
use Rattle.bb_written.proofs.Parts.{from_parts}
use Rattle.bb_base.proofs.Lists.{all_front, all_back, all_join, all_map}
use Rattle.bb_written.proofs.Forward.{takes}

-- the gate is no changed one
abbrev Same : Change ℕ → Gate Wire → Type 0
Same f g = on_wires f g.out ≡ None

xor_same : (f : Change ℕ) (out : Wire) (ws : List Wire) → on_wires f out ≡ None → Same f (xor_row out ws)
xor_same f out [] h = h
xor_same f out (w ∷ ws) h = h

low_same : (f : Change ℕ) (ws : List Wire) → Same f (low_row ws)
low_same f [] = refl
low_same f (w ∷ ws) = refl

so_same : (f : Change ℕ) (q : Option Wire) → Same f (out_row q)
so_same f None = refl
so_same f (Some q) = refl

pass_same : (f : Change ℕ) (r : ℕ) (q : Option Wire) → Same f (pass_row r q)
pass_same f r None = refl
pass_same f r (Some q) = refl

carry_same : (f : Change ℕ) (r : ℕ) (q : Option Wire) → Same f (carry_row r q)
carry_same f r None = refl
carry_same f r (Some q) = refl

word_same : (f : Change ℕ) (i : ℕ) (ws : List Wire) → AllByRecursion (Same f) (word_rows i ws)
word_same f i [] = tt
word_same f i (w ∷ ws) = (refl, word_same f (suc i) ws)

ring_from_same : (f : Change ℕ) (s more : ℕ) → AllByRecursion (Same f) (ring_rows_from s more)
ring_from_same f s zero = (refl, (refl, (refl, tt)))
ring_from_same f s (suc more) = (refl, (refl, (refl, (refl, ring_from_same f (suc s) more))))

ring_same : (f : Change ℕ) (s : ℕ) → AllByRecursion (Same f) (ring_rows s)
ring_same f zero = (refl, tt)
ring_same f (suc more) = (refl, (refl, ring_from_same f 0 more))

controller_same : (f : Change ℕ) (p : PlanValue) → AllByRecursion (Same f) (controller p)
controller_same f p = (
  refl,
  (
    refl,
    (
      refl,
      (
        refl,
        (
          refl,
          (
            low_same f (front (register_word p)),
            (
              refl,
              all_join (Same f) (word_rows 0 (word_ahead p)) _ (word_same f 0 (word_ahead p)) (
                refl,
                (
                  refl,
                  (
                    refl,
                    (
                      refl,
                      (
                        refl,
                        all_join (Same f) (ring_rows (length p.sessions)) _ (ring_same f (length p.sessions))
                            (refl, (refl, (refl, (refl, (refl, (refl, (so_same f (last_q p), tt))))))),
                      ),
                    ),
                  ),
                ),
              ),
            ),
          ),
        ),
      ),
    ),
  ),
)

register_same : (f : Change ℕ) (r : ℕ) (ss : List ℕ) (before : Option Wire) (mask : ℕ) (qs : List Wire) → AllByRecursion (Same f) (rows_of_register r ss before mask qs)
register_same f r [] before mask qs = (refl, (refl, (refl, (pass_same f r before, tt))))
register_same f r (s ∷ ss) before mask qs = (refl, (refl, (refl, (refl, (refl, (refl, (refl, (refl, (carry_same f r before, (refl, tt))))))))))

registers_same : (f : Change ℕ) (p : PlanValue) (r i : ℕ) (before : Option Wire) (gs : List RegisterValue) → AllByRecursion (Same f) (registers_from p r i before gs)
registers_same f p r i before [] = tt
registers_same f p r i before (g ∷ gs) =
    all_join (Same f) (rows_of_register r (sessions_of p r) before g.mask (qs_from i g.cells)) _ (register_same f r (sessions_of p r) before g.mask (qs_from i g.cells)) (registers_same f p (suc r) (i + length g.cells) _ gs)

cell_same : (f : Change ℕ) (a : Netlist ℕ) (p : PlanValue) (r i : ℕ) (before : Wire) (k : Kind) (net column : ℕ) → AllByRecursion (Same f) (cell_rows a p r i before (record { kind = k; net = net; column = column }))
cell_same f a p r i before Input net column = (refl, (xor_same f (Code i) (picked column (word_ahead p)) refl, (refl, (refl, (refl, (refl, (refl, tt)))))))
cell_same f a p r i before State net column = (refl, (refl, (xor_same f (Code i) (picked column (word_ahead p)) refl, (refl, (refl, tt)))))
cell_same f a p r i before Split net column = (refl, (refl, (xor_same f (Code i) (picked column (word_ahead p)) refl, (refl, (refl, tt)))))
cell_same f a p r i before Cut net column = (refl, (refl, (xor_same f (Code i) (picked column (word_ahead p)) refl, (refl, (refl, (refl, (refl, (refl, tt))))))))
cell_same f a p r i before Watch net column = (refl, (refl, (refl, tt)))
cell_same f a p r i before Output net column = (refl, (refl, (refl, tt)))

cells_same : (f : Change ℕ) (a : Netlist ℕ) (p : PlanValue) (r i : ℕ) (before : Wire) (cs : List Cell) → AllByRecursion (Same f) (rows_of_cells a p r i before cs)
cells_same f a p r i before [] = tt
cells_same f a p r i before (c ∷ cs) = all_join (Same f) (cell_rows a p r i before c) _ (cell_same f a p r i before c.kind c.net c.column) (cells_same f a p r (suc i) (q_of i c) cs)

all_cells_same : (f : Change ℕ) (a : Netlist ℕ) (p : PlanValue) (r i : ℕ) (gs : List RegisterValue) → AllByRecursion (Same f) (all_cells_from a p r i gs)
all_cells_same f a p r i [] = tt
all_cells_same f a p r i (g ∷ gs) = all_join (Same f) (rows_of_cells a p r i (First r) g.cells) _ (cells_same f a p r i (First r) g.cells) (all_cells_same f a p (suc r) (i + length g.cells) gs)

pub added_same : (f : Change ℕ) (a : Netlist ℕ) (p : PlanValue) → AllByRecursion (Same f) (test_gates a p)
added_same f a p = from_parts (Same f) a p (controller_same f p) (registers_same f p 0 0 None p.registers) (all_cells_same f a p 0 0 p.registers)

-- an unchanged gate keeps its equation
meets_same : (f : Change ℕ) (v : Wire → Bool) (gs : List (Gate Wire)) → AllByRecursion (Same f) gs → AllByRecursion (MeetsBy (gives_by (on_wires f)) v) gs → AllByRecursion (Meets v) gs
meets_same f v [] h k = tt
meets_same f v (g ∷ gs) h k = (k.0 ∙ (λ j. by_table (h.0 j) (map v g.ins) (op_gives g.op (map v g.ins))), meets_same f v gs h.1 k.1)

-- the cycles of a run
gates_at : (f : Change ℕ) (a : Netlist ℕ) (p : PlanValue) (s : List Bool) (is : List (List Bool)) (vs : List (Wire → Bool)) → IsRunBy (gives_by (on_wires f)) (written_netlist a p) s is vs → (c : ℕ) → c < length vs
    → AllByRecursion (MeetsBy (gives_by (on_wires f)) (at vs c)) (written_netlist a p).gates
gates_at f a p s [] [] run c lt = absurd (omega (arith, lt))
gates_at f a p s (i ∷ is) (v ∷ vs) run zero lt = run.0.gates
gates_at f a p s (i ∷ is) (v ∷ vs) run (suc c) lt = gates_at f a p _ is vs run.1 c (omega (arith, lt))
gates_at f a p s [] (v ∷ vs) run c lt = absurd run
gates_at f a p s (i ∷ is) [] run c lt = absurd run

steps_at : (f : Change ℕ) (a : Netlist ℕ) (p : PlanValue) (s : List Bool) (is : List (List Bool)) (vs : List (Wire → Bool)) → IsRunBy (gives_by (on_wires f)) (written_netlist a p) s is vs → (c : ℕ) → suc c < length vs
    → AllByRecursion (TakesBit (at vs c) (at vs (suc c))) (flops p)
steps_at f a p s [] [] run c lt = absurd (omega (arith, lt))
steps_at f a p s (i ∷ []) (v ∷ []) run c lt = absurd (omega (arith, lt))
steps_at f a p s (i ∷ []) (v ∷ w ∷ vs) run c lt = absurd run.1
steps_at f a p s (i ∷ j ∷ is) (v ∷ []) run c lt = absurd run.1
steps_at f a p s (i ∷ j ∷ is) (v ∷ w ∷ vs) run zero lt = takes v w (flops p) run.1.0.state
steps_at f a p s (i ∷ j ∷ is) (v ∷ w ∷ vs) run (suc c) lt = steps_at f a p _ (j ∷ is) (w ∷ vs) run.1 c (omega (arith, lt))
steps_at f a p s [] (v ∷ vs) run c lt = absurd run
steps_at f a p s (i ∷ is) [] run c lt = absurd run

later_at : (vs : List (Wire → Bool)) → AllByRecursion (λ w. (w Test ≡ true) × (w Init ≡ false)) vs → (c : ℕ) → c < length vs → (at vs c Test ≡ true) × (at vs c Init ≡ false)
later_at [] h c lt = absurd (omega (arith, lt))
later_at (v ∷ vs) h zero lt = h.0
later_at (v ∷ vs) h (suc c) lt = later_at vs h.1 c (omega (arith, lt))

start_at : (vs : List (Wire → Bool)) → IsTestOf vs → 0 < length vs → (at vs 0 Test ≡ true) × (at vs 0 Init ≡ true)
start_at [] h lt = absurd (omega (arith, lt))
start_at (v ∷ vs) h lt = h.0

after_at : (vs : List (Wire → Bool)) → IsTestOf vs → (c : ℕ) → suc c < length vs → (at vs (suc c) Test ≡ true) × (at vs (suc c) Init ≡ false)
after_at [] h c lt = absurd (omega (arith, lt))
after_at (v ∷ vs) h c lt = later_at vs h.1 c (omega (arith, lt))

pub traced : (a : Netlist ℕ) (p : PlanValue) → TestsAreTraces a p
traced a p f s is vs run test =
    let at_gates : (c : ℕ) → c < length vs → AllByRecursion (MeetsBy (gives_by (on_wires f)) (at vs c)) (written_netlist a p).gates = gates_at f a p s is vs run in
    record {
      trace =
          record {
            start = start_at vs test;
            later = after_at vs test;
            trace = record {
              gates_meet = λ c lt. meets_same f (at vs c) (test_gates a p) (added_same f a p) (all_back (MeetsBy (gives_by (on_wires f)) (at vs c)) (map (written_gate p) a.gates) (test_gates a p) (at_gates c lt));
              flops_take = steps_at f a p s is vs run;
            };
          };
      kept = λ c lt. all_map (MeetsBy (gives_by (on_wires f)) (at vs c)) (λ (g : Gate ℕ). at vs c (Kept g.out) ≡ gives_by f g (map (at vs c) (map (read p) g.ins))) (written_gate p) (λ g m. m) a.gates
          (all_front (MeetsBy (gives_by (on_wires f)) (at vs c)) (map (written_gate p) a.gates) (test_gates a p) (at_gates c lt));
    }
