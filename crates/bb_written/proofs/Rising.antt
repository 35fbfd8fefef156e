-- The added nets differ: in the order of their statements each has a greater key than those before it.
use Rattle.std.proofs.Common.{arith, ◌≡◌, ◌≢◌, ℕ, ◌+◌, ◌*◌, ◌<◌, ◌≤◌, ◌^◌, zero, suc, List, [], ◌∷◌, ◌++◌, map, filter, length, cond, Bool, true, false, Option, Some, None, refl, sym, ap, subst, ◌∙◌}
use Rattle.std.specs.List.{AllByRecursion}
use Rattle.bb_base.proofs.Lists.{map_join}
use Rattle.bb_base.proofs.Distinct.{Distinct}
use Rattle.bb_base.specs.Net.{Gate, Flop, Netlist}
use Rattle.bb_base.specs.Bits.{picked}
use Rattle.bb_terms.specs.declared.plan.Cell.{Cell}
use Rattle.bb_terms.specs.declared.kind.Kind.{Kind}
use Rattle.bb_terms.specs.declared.kind.Kind.TheVariants.{Input, State, Split, Cut, Watch, Output}
use Rattle.bb_terms.specs.Plan.{PlanValue, RegisterValue, chain, sessions_of}
use Rattle.bb_terms.specs.declared.wire.Wire.{Wire}
use Rattle.bb_terms.specs.declared.wire.Wire.TheVariants.{Kept, Test, Init, So, Done, NotInit, NotTest, Go, NotGo, Parity, Low, Feed, Word, WordNext, Wrap, Phase, PhaseTurned, PhaseNext, Advance, NotAdvance, Ring, RingKept, RingMoved, RingOr, RingNext, NotOver, Live, NotPhase, Running, Shifting, On, Compacts, Latches, Takes, Off, Codes, Feedback, Signed, Carried, First, Line, Chain, Code, Coded, Next, InTest, InNormal, Read, Held}
use Rattle.bb_terms.specs.Wires.{IsAdded}
use Rattle.bb_terms.specs.Reads.{q_by, q_of, line, qs_from}
use Rattle.bb_terms.specs.Controller.{gate_row, word_rows, word_ahead, register_word, low_row, start_rows, feed_rows, phase_rows, ring_rows_from, ring_rows, cycle_rows, out_row, last_q, controller}
use Rattle.bb_terms.specs.Registers.{rows_of_register, registers_from}
use Rattle.bb_written.specs.Cells.{when, xor_row, next_terms, cell_rows, rows_of_cells, all_cells_from, flop, word_flops, ring_flops, cell_flops, flops}
use Rattle.bb_written.specs.Written.{test_gates}
use Rattle.std.proofs.lemmas.List.Elements.{filter-append}
use Rattle.bb_base.specs.declared.operator.Op.TheVariants.{And, Or, Xor}
use Rattle.bb_terms.specs.OnBits.{front, last_of}
use Rattle.bb_terms.specs.Kinds.{is_source, has_line, is_behind}

abbrev pub out_of : Gate Wire → Wire
out_of g = g.out

abbrev pub q_in : Flop Wire → Wire
q_in f = f.q

-- by the statement that drives the net
abbrev pub key : Wire → ℕ
key (Kept net) = 0
key Test = 0
key Init = 1
key NotInit = 2
key NotTest = 3
key Go = 4
key NotGo = 5
key Parity = 6
key Low = 7
key Feed = 8
key (WordNext i) = 1099511627776 + i
key Wrap = 2199023255552
key PhaseTurned = 2199023255553
key PhaseNext = 2199023255554
key Advance = 2199023255555
key NotAdvance = 2199023255556
key (RingKept s) = 3298534883328 + 4 * s
key (RingMoved s) = 3298534883329 + 4 * s
key (RingOr s) = 3298534883330 + 4 * s
key (RingNext s) = 3298534883331 + 4 * s
key NotOver = 4398046511104
key Live = 4398046511105
key NotPhase = 4398046511106
key Running = 4398046511107
key Shifting = 4398046511108
key Done = 4398046511109
key So = 4398046511110
key (On r) = 5497558138880 + 16 * r
key (Compacts r) = 5497558138881 + 16 * r
key (Latches r) = 5497558138882 + 16 * r
key (Takes r) = 5497558138883 + 16 * r
key (Off r) = 5497558138884 + 16 * r
key (Codes r) = 5497558138885 + 16 * r
key (Feedback r) = 5497558138886 + 16 * r
key (Signed r) = 5497558138887 + 16 * r
key (Carried r) = 5497558138888 + 16 * r
key (First r) = 5497558138889 + 16 * r
key (Line i) = 6597069766656 + 8 * i
key (Chain i) = 6597069766657 + 8 * i
key (Code i) = 6597069766658 + 8 * i
key (Coded i) = 6597069766659 + 8 * i
key (Next i) = 6597069766660 + 8 * i
key (InTest i) = 6597069766661 + 8 * i
key (InNormal i) = 6597069766662 + 8 * i
key (Read i) = 6597069766663 + 8 * i
key (Word i) = 7696581394432 + i
key Phase = 8796093022208
key (Ring s) = 9895604649984 + s
key (Held i) = 10995116277760 + i

-- each is an added net with a number of 32 bits, and has a greater key than those before it, from this one on and below that one
abbrev pub Rises : ℕ → List Wire → ℕ → Type 0
Rises low [] high = low ≤ high
Rises low (w ∷ ws) high = (low ≤ key w) × (IsAdded w × Rises (suc (key w)) ws high)

lower : (low from high : ℕ) (ws : List Wire) → low ≤ from → Rises from ws high → Rises low ws high
lower low from high [] less h = omega (arith, less, h)
lower low from high (w ∷ ws) less h = (omega (arith, less, h.0), (h.1.0, h.1.1))

higher : (low high more : ℕ) (ws : List Wire) → high ≤ more → Rises low ws high → Rises low ws more
higher low high more [] less h = omega (arith, less, h)
higher low high more (w ∷ ws) less h = (h.0, (h.1.0, higher (suc (key w)) high more ws less h.1.1))

pub rises_join : (low middle high : ℕ) (vs ws : List Wire) → Rises low vs middle → Rises middle ws high → Rises low (vs ++ ws) high
rises_join low middle high [] ws h k = lower low middle high ws h k
rises_join low middle high (v ∷ vs) ws h k = (h.0, (h.1.0, rises_join (suc (key v)) middle high vs ws h.1.1 k))

pub rises_filter : (test : Wire → Bool) (low high : ℕ) (ws : List Wire) → Rises low ws high → Rises low (filter test ws) high
rises_filter test low high [] h = h
rises_filter test low high (w ∷ ws) h = by (test w) (rises_filter test (suc (key w)) high ws h.1.1)
  where
    by : (b : Bool) → Rises (suc (key w)) (filter test ws) high → Rises low (cond b (w ∷ filter test ws) (filter test ws)) high
    by true k = (h.0, (h.1.0, k))
    by false k = lower low (suc (key w)) high (filter test ws) (omega (arith, h.0)) k

-- all of them are added, and no two are equal
pub rises_added : (low high : ℕ) (ws : List Wire) → Rises low ws high → AllByRecursion IsAdded ws
rises_added low high [] h = tt
rises_added low high (w ∷ ws) h = (h.1.0, rises_added (suc (key w)) high ws h.1.1)

keys_from : (low high : ℕ) (ws : List Wire) → Rises low ws high → AllByRecursion (λ w. low ≤ key w) ws
keys_from low high [] h = tt
keys_from low high (w ∷ ws) h = (h.0, from (suc (key w)) ws (omega (arith, h.0)) (keys_from (suc (key w)) high ws h.1.1))
  where
    from : (m : ℕ) (vs : List Wire) → low ≤ m → AllByRecursion (λ v. m ≤ key v) vs → AllByRecursion (λ v. low ≤ key v) vs
    from m [] less k = tt
    from m (v ∷ vs) less k = (omega (arith, less, k.0), from m vs less k.1)

pub rises_distinct : (low high : ℕ) (ws : List Wire) → Rises low ws high → Distinct ws
rises_distinct low high [] h = tt
rises_distinct low high (w ∷ ws) h = (apart ws (keys_from (suc (key w)) high ws h.1.1), rises_distinct (suc (key w)) high ws h.1.1)
  where
    apart : (vs : List Wire) → AllByRecursion (λ v. suc (key w) ≤ key v) vs → AllByRecursion (λ v. v ≢ w) vs
    apart [] k = tt
    apart (v ∷ vs) k = (λ same. omega (arith, ap key same, k.0), apart vs k.1)

-- the controller ---------------------------------------------------------------

words_rise : (i : ℕ) (ws : List Wire) → i + length ws < 2 ^ 32 → Rises (1099511627776 + i) (map out_of (word_rows i ws)) 2199023255552
words_rise i [] h = omega (arith, h)
words_rise i (w ∷ ws) h = (omega arith, (omega (arith, h), lower (suc (1099511627776 + i)) (1099511627776 + suc i) 2199023255552 (map out_of (word_rows (suc i) ws)) (omega arith) (words_rise (suc i) ws (omega (arith, h)))))

rings_from_rise : (s k : ℕ) → suc (s + k) < 2 ^ 32 → Rises (3298534883332 + 4 * s) (map out_of (ring_rows_from s k)) 4398046511104
rings_from_rise s zero h = (omega arith, (omega (arith, h), (omega arith, (omega (arith, h), (omega arith, (omega (arith, h), omega (arith, h)))))))
rings_from_rise s (suc k) h = (
  omega arith,
  (
    omega (arith, h),
    (
      omega arith,
      (
        omega (arith, h),
        (
          omega arith,
          (
            omega (arith, h),
            (
              omega arith,
              (
                omega (arith, h),
                lower (suc (3298534883331 + 4 * suc s)) (3298534883332 + 4 * suc s) 4398046511104 (map out_of (ring_rows_from (suc s) k)) (omega arith) (rings_from_rise (suc s) k (omega (arith, h))),
              ),
            ),
          ),
        ),
      ),
    ),
  ),
)

rings_rise : (k : ℕ) → k < 2 ^ 32 → Rises 3298534883328 (map out_of (ring_rows k)) 4398046511104
rings_rise zero h = (omega arith, (omega arith, omega arith))
rings_rise (suc k) h = (omega arith, (omega arith, (omega arith, (omega arith, lower (suc (3298534883331 + 4 * 0)) (3298534883332 + 4 * 0) 4398046511104 (map out_of (ring_rows_from 0 k)) (omega arith) (rings_from_rise 0 k (omega (arith, h)))))))

pub low_out : (ws : List Wire) → (low_row ws).out ≡ Low
low_out [] = refl
low_out (w ∷ ws) = refl

pub so_out : (q : Option Wire) → (out_row q).out ≡ So
so_out None = refl
so_out (Some w) = refl

-- the lists of which it is made, one after another
start_rise : Rises 2 (map out_of start_rows) 6
start_rise = (omega arith, (tt, (omega arith, (tt, (omega arith, (tt, (omega arith, (tt, omega arith))))))))

feed_rise : (mask : ℕ) (bits : List Wire) → Rises 6 (map out_of (feed_rows mask bits)) 1099511627776
feed_rise mask bits = subst (λ w. Rises 6 (Parity ∷ w ∷ Feed ∷ []) 1099511627776) (sym (low_out (front bits))) (omega arith, (tt, (omega arith, (tt, (omega arith, (tt, omega arith))))))

phase_rise : (w : Wire) → Rises 2199023255552 (map out_of (phase_rows w)) 3298534883328
phase_rise w = (omega arith, (tt, (omega arith, (tt, (omega arith, (tt, (omega arith, (tt, (omega arith, (tt, omega arith))))))))))

cycle_rise : (s : ℕ) (q : Option Wire) → Rises 4398046511104 (map out_of (cycle_rows s ++ out_row q ∷ [])) 5497558138880
cycle_rise s q = subst (λ w. Rises 4398046511104 (NotOver ∷ Live ∷ NotPhase ∷ Running ∷ Shifting ∷ Done ∷ w ∷ []) 5497558138880) (sym (so_out q))
    (omega arith, (tt, (omega arith, (tt, (omega arith, (tt, (omega arith, (tt, (omega arith, (tt, (omega arith, (tt, (omega arith, (tt, omega arith))))))))))))))

pub controller_rise : (p : PlanValue) → length (word_ahead p) < 2 ^ 32 → length p.sessions < 2 ^ 32 → Rises 2 (map out_of (controller p)) 5497558138880
controller_rise p few sessions =
    let words = word_rows 0 (word_ahead p) in
    let phases = phase_rows (last_of Test (register_word p)) in
    let rings = ring_rows (length p.sessions) in
    let ends = cycle_rows (length p.sessions) ++ out_row (last_q p) ∷ [] in
    let feeds = feed_rows p.mask (register_word p) in
    let five = subst (λ ws. Rises 3298534883328 ws 5497558138880) (sym (map_join out_of rings ends)) (rises_join 3298534883328 4398046511104 5497558138880 (map out_of rings) (map out_of ends) (rings_rise (length p.sessions) sessions) (cycle_rise (length p.sessions) (last_q p))) in
    let four = subst (λ ws. Rises 2199023255552 ws 5497558138880) (sym (map_join out_of phases (rings ++ ends))) (rises_join 2199023255552 3298534883328 5497558138880 (map out_of phases) (map out_of (rings ++ ends)) (phase_rise (last_of Test (register_word p))) five) in
    let three = subst (λ ws. Rises 1099511627776 ws 5497558138880) (sym (map_join out_of words (phases ++ (rings ++ ends)))) (rises_join 1099511627776 2199023255552 5497558138880 (map out_of words) (map out_of (phases ++ (rings ++ ends))) (lower 1099511627776 (1099511627776 + 0) 2199023255552 (map out_of words) (omega arith) (words_rise 0 (word_ahead p) (omega (arith, few)))) four) in
    let two = subst (λ ws. Rises 6 ws 5497558138880) (sym (map_join out_of feeds (words ++ (phases ++ (rings ++ ends))))) (rises_join 6 1099511627776 5497558138880 (map out_of feeds) (map out_of (words ++ (phases ++ (rings ++ ends)))) (feed_rise p.mask (register_word p)) three) in
    subst (λ ws. Rises 2 ws 5497558138880) (sym (map_join out_of start_rows (feeds ++ (words ++ (phases ++ (rings ++ ends)))))) (rises_join 2 6 5497558138880 (map out_of start_rows) (map out_of (feeds ++ (words ++ (phases ++ (rings ++ ends))))) start_rise two)

-- the registers -----------------------------------------------------------------

register_rise : (r : ℕ) (sessions : List ℕ) (before : Option Wire) (mask : ℕ) (qs : List Wire) → r < 2 ^ 32 → Rises (5497558138880 + 16 * r) (map out_of (rows_of_register r sessions before mask qs)) (5497558138880 + 16 * suc r)
register_rise r [] None mask qs h = (omega arith, (h, (omega arith, (h, (omega arith, (h, (omega arith, (h, omega arith))))))))
register_rise r [] (Some q) mask qs h = (omega arith, (h, (omega arith, (h, (omega arith, (h, (omega arith, (h, omega arith))))))))
register_rise r (s ∷ sessions) None mask qs h =
    (omega arith, (h, (omega arith, (h, (omega arith, (h, (omega arith, (h, (omega arith, (h, (omega arith, (h, (omega arith, (h, (omega arith, (h, (omega arith, (h, (omega arith, (h, omega arith))))))))))))))))))))
register_rise r (s ∷ sessions) (Some q) mask qs h =
    (omega arith, (h, (omega arith, (h, (omega arith, (h, (omega arith, (h, (omega arith, (h, (omega arith, (h, (omega arith, (h, (omega arith, (h, (omega arith, (h, (omega arith, (h, omega arith))))))))))))))))))))

registers_rise : (p : PlanValue) (r i : ℕ) (before : Option Wire) (gs : List RegisterValue) → r + length gs < 2 ^ 32 → Rises (5497558138880 + 16 * r) (map out_of (registers_from p r i before gs)) 6597069766656
registers_rise p r i before [] h = omega (arith, h)
registers_rise p r i before (g ∷ gs) h =
    let here = rows_of_register r (sessions_of p r) before g.mask (qs_from i g.cells) in
    let rest = registers_from p (suc r) (i + length g.cells) (last_of before (map Some (qs_from i g.cells))) gs in
    subst (λ ws. Rises (5497558138880 + 16 * r) ws 6597069766656) (sym (map_join out_of here rest))
    (rises_join (5497558138880 + 16 * r) (5497558138880 + 16 * suc r) 6597069766656 (map out_of here) (map out_of rest) (register_rise r (sessions_of p r) before g.mask (qs_from i g.cells) (omega (arith, h)))
    (registers_rise p (suc r) (i + length g.cells) (last_of before (map Some (qs_from i g.cells))) gs (omega (arith, h))))

-- the cells ---------------------------------------------------------------------

pub xor_out : (w : Wire) (ws : List Wire) → (xor_row w ws).out ≡ w
xor_out w [] = refl
xor_out w (v ∷ ws) = refl

-- the nets that the rows of cell i drive
abbrev pub cell_outs : Kind → ℕ → List Wire
cell_outs Input i = Chain i ∷ Code i ∷ Coded i ∷ Next i ∷ InTest i ∷ InNormal i ∷ Read i ∷ []
cell_outs State i = Line i ∷ Chain i ∷ Code i ∷ Coded i ∷ Next i ∷ []
cell_outs Split i = Line i ∷ Chain i ∷ Code i ∷ Coded i ∷ Next i ∷ []
cell_outs Cut i = Line i ∷ Chain i ∷ Code i ∷ Coded i ∷ Next i ∷ InTest i ∷ InNormal i ∷ Read i ∷ []
cell_outs Watch i = Line i ∷ Chain i ∷ Next i ∷ []
cell_outs Output i = Line i ∷ Chain i ∷ Next i ∷ []

pub outs_of_cell : (a : Netlist ℕ) (p : PlanValue) (r i : ℕ) (before : Wire) (c : Cell) → map out_of (cell_rows a p r i before c) ≡ cell_outs c.kind i
outs_of_cell a p r i before c = by c.kind (line a p c)
  where
    by : (k : Kind) (l : Wire) → map out_of (when (has_line k) (gate_row And (Line i) (Latches r ∷ l ∷ []) ∷ []) ++ (gate_row And (Chain i) (Takes r ∷ before ∷ [])
        ∷ (when (is_source k) (xor_row (Code i) (picked c.column (word_ahead p)) ∷ gate_row And (Coded i) (Codes r ∷ Code i ∷ []) ∷ [])
        ++ (gate_row Xor (Next i) (next_terms k i)
        ∷ when (is_behind k) (gate_row And (InTest i) (Test ∷ Held i ∷ []) ∷ gate_row And (InNormal i) (NotTest ∷ Kept c.net ∷ []) ∷ gate_row Or (Read i) (InTest i ∷ InNormal i ∷ []) ∷ []))))) ≡ cell_outs k i
    by Input l = ap (λ w. Chain i ∷ w ∷ Coded i ∷ Next i ∷ InTest i ∷ InNormal i ∷ Read i ∷ []) (xor_out (Code i) (picked c.column (word_ahead p)))
    by State l = ap (λ w. Line i ∷ Chain i ∷ w ∷ Coded i ∷ Next i ∷ []) (xor_out (Code i) (picked c.column (word_ahead p)))
    by Split l = ap (λ w. Line i ∷ Chain i ∷ w ∷ Coded i ∷ Next i ∷ []) (xor_out (Code i) (picked c.column (word_ahead p)))
    by Cut l = ap (λ w. Line i ∷ Chain i ∷ w ∷ Coded i ∷ Next i ∷ InTest i ∷ InNormal i ∷ Read i ∷ []) (xor_out (Code i) (picked c.column (word_ahead p)))
    by Watch l = refl
    by Output l = refl

cell_rise : (k : Kind) (i : ℕ) → i < 2 ^ 32 → Rises (6597069766656 + 8 * i) (cell_outs k i) (6597069766656 + 8 * suc i)
cell_rise Input i h = (omega arith, (h, (omega arith, (h, (omega arith, (h, (omega arith, (h, (omega arith, (h, (omega arith, (h, (omega arith, (h, omega arith))))))))))))))
cell_rise State i h = (omega arith, (h, (omega arith, (h, (omega arith, (h, (omega arith, (h, (omega arith, (h, omega arith))))))))))
cell_rise Split i h = (omega arith, (h, (omega arith, (h, (omega arith, (h, (omega arith, (h, (omega arith, (h, omega arith))))))))))
cell_rise Cut i h = (omega arith, (h, (omega arith, (h, (omega arith, (h, (omega arith, (h, (omega arith, (h, (omega arith, (h, (omega arith, (h, (omega arith, (h, omega arith))))))))))))))))
cell_rise Watch i h = (omega arith, (h, (omega arith, (h, (omega arith, (h, omega arith))))))
cell_rise Output i h = (omega arith, (h, (omega arith, (h, (omega arith, (h, omega arith))))))

cells_rise : (a : Netlist ℕ) (p : PlanValue) (r i : ℕ) (before : Wire) (cs : List Cell) → i + length cs < 2 ^ 32 → Rises (6597069766656 + 8 * i) (map out_of (rows_of_cells a p r i before cs)) (6597069766656 + 8 * (i + length cs))
cells_rise a p r i before [] h = omega arith
cells_rise a p r i before (c ∷ cs) h =
    let rest = rows_of_cells a p r (suc i) (q_of i c) cs in
    let here = subst (λ ws. Rises (6597069766656 + 8 * i) ws (6597069766656 + 8 * suc i)) (sym (outs_of_cell a p r i before c)) (cell_rise c.kind i (omega (arith, h))) in
    let more = higher (6597069766656 + 8 * suc i) (6597069766656 + 8 * (suc i + length cs)) (6597069766656 + 8 * (i + length (c ∷ cs))) (map out_of rest) (omega arith) (cells_rise a p r (suc i) (q_of i c) cs (omega (arith, h))) in
    subst (λ ws. Rises (6597069766656 + 8 * i) ws (6597069766656 + 8 * (i + length (c ∷ cs)))) (sym (map_join out_of (cell_rows a p r i before c) rest))
    (rises_join (6597069766656 + 8 * i) (6597069766656 + 8 * suc i) (6597069766656 + 8 * (i + length (c ∷ cs))) (map out_of (cell_rows a p r i before c)) (map out_of rest) here more)

-- how many cells these registers have
abbrev pub cells_in : List RegisterValue → ℕ
cells_in [] = 0
cells_in (g ∷ gs) = length g.cells + cells_in gs

all_cells_rise : (a : Netlist ℕ) (p : PlanValue) (r i : ℕ) (gs : List RegisterValue) → i + cells_in gs < 2 ^ 32 → Rises (6597069766656 + 8 * i) (map out_of (all_cells_from a p r i gs)) 7696581394432
all_cells_rise a p r i [] h = omega (arith, h)
all_cells_rise a p r i (g ∷ gs) h =
    let here = rows_of_cells a p r i (First r) g.cells in
    let rest = all_cells_from a p (suc r) (i + length g.cells) gs in
    subst (λ ws. Rises (6597069766656 + 8 * i) ws 7696581394432) (sym (map_join out_of here rest))
    (rises_join (6597069766656 + 8 * i) (6597069766656 + 8 * (i + length g.cells)) 7696581394432 (map out_of here) (map out_of rest) (cells_rise a p r i (First r) g.cells (omega (arith, h))) (all_cells_rise a p (suc r) (i + length g.cells) gs (omega (arith, h))))

-- all added gates
pub outs_rise : (a : Netlist ℕ) (p : PlanValue) → length (word_ahead p) < 2 ^ 32 → length p.sessions < 2 ^ 32 → length p.registers < 2 ^ 32 → cells_in p.registers < 2 ^ 32 → Rises 2 (map out_of (test_gates a p)) 7696581394432
outs_rise a p few sessions registers cells =
    let ctl = controller p in
    let regs = registers_from p 0 0 None p.registers in
    let own = all_cells_from a p 0 0 p.registers in
    let two = subst (λ ws. Rises 2 ws 6597069766656) (sym (map_join out_of ctl regs)) (rises_join 2 5497558138880 6597069766656 (map out_of ctl) (map out_of regs) (controller_rise p few sessions)
    (lower 5497558138880 (5497558138880 + 16 * 0) 6597069766656 (map out_of regs) (omega arith) (registers_rise p 0 0 None p.registers (omega (arith, registers))))) in
    subst (λ ws. Rises 2 ws 7696581394432) (sym (map_join out_of (ctl ++ regs) own)) (rises_join 2 6597069766656 7696581394432 (map out_of (ctl ++ regs)) (map out_of own) two
    (lower 6597069766656 (6597069766656 + 8 * 0) 7696581394432 (map out_of own) (omega arith) (all_cells_rise a p 0 0 p.registers (omega (arith, cells)))))

-- the flip-flops, where the test passes no net of the original ------------------------

word_qs_rise : (i k : ℕ) → i + k < 2 ^ 32 → Rises (7696581394432 + i) (map q_in (word_flops i k)) 8796093022208
word_qs_rise i zero h = omega (arith, h)
word_qs_rise i (suc k) h = (omega arith, (omega (arith, h), lower (suc (7696581394432 + i)) (7696581394432 + suc i) 8796093022208 (map q_in (word_flops (suc i) k)) (omega arith) (word_qs_rise (suc i) k (omega (arith, h)))))

ring_qs_rise : (s k : ℕ) → suc (s + k) < 2 ^ 32 → Rises (9895604649984 + s) (map q_in (ring_flops s k)) 10995116277760
ring_qs_rise s zero h = (omega arith, (omega (arith, h), omega (arith, h)))
ring_qs_rise s (suc k) h = (omega arith, (omega (arith, h), lower (suc (9895604649984 + s)) (9895604649984 + suc s) 10995116277760 (map q_in (ring_flops (suc s) k)) (omega arith) (ring_qs_rise (suc s) k (omega (arith, h)))))

module _ (test : Wire → Bool) (kept : (net : ℕ) → test (Kept net) ≡ false) where
  held_one : (i : ℕ) (b : Bool) (ws : List Wire) → i < 2 ^ 32 → Rises (10995116277760 + suc i) ws 12094627905536 → Rises (10995116277760 + i) (cond b (Held i ∷ ws) ws) 12094627905536
  held_one i true ws h rest = (omega arith, (h, lower (suc (10995116277760 + i)) (10995116277760 + suc i) 12094627905536 ws (omega arith) rest))
  held_one i false ws h rest = lower (10995116277760 + i) (10995116277760 + suc i) 12094627905536 ws (omega arith) rest

  held_rise : (i : ℕ) (k : Kind) (net : ℕ) (ws : List Wire) → i < 2 ^ 32 → Rises (10995116277760 + suc i) ws 12094627905536 → Rises (10995116277760 + i) (cond (test (q_by k net i)) (q_by k net i ∷ ws) ws) 12094627905536
  held_rise i State net ws h rest = subst (λ b. Rises (10995116277760 + i) (cond b (Kept net ∷ ws) ws) 12094627905536) (sym (kept net)) (lower (10995116277760 + i) (10995116277760 + suc i) 12094627905536 ws (omega arith) rest)
  held_rise i Split net ws h rest = subst (λ b. Rises (10995116277760 + i) (cond b (Kept net ∷ ws) ws) 12094627905536) (sym (kept net)) (lower (10995116277760 + i) (10995116277760 + suc i) 12094627905536 ws (omega arith) rest)
  held_rise i Input net ws h rest = held_one i (test (Held i)) ws h rest
  held_rise i Cut net ws h rest = held_one i (test (Held i)) ws h rest
  held_rise i Watch net ws h rest = held_one i (test (Held i)) ws h rest
  held_rise i Output net ws h rest = held_one i (test (Held i)) ws h rest

  cell_qs_rise : (i : ℕ) (cs : List Cell) → i + length cs < 2 ^ 32 → Rises (10995116277760 + i) (filter test (map q_in (cell_flops i cs))) 12094627905536
  cell_qs_rise i [] h = omega (arith, h)
  cell_qs_rise i (c ∷ cs) h = held_rise i c.kind c.net (filter test (map q_in (cell_flops (suc i) cs))) (omega (arith, h)) (cell_qs_rise (suc i) cs (omega (arith, h)))

  pub qs_rise : (p : PlanValue) → p.degree < 2 ^ 32 → suc (length p.sessions) < 2 ^ 32 → length (chain p) < 2 ^ 32 → Rises 7696581394432 (filter test (map q_in (flops p))) 12094627905536
  qs_rise p few sessions cells =
      let words = word_flops 0 p.degree in
      let rings = ring_flops 0 (length p.sessions) in
      let own = cell_flops 0 (chain p) in
      let one = lower 7696581394432 (7696581394432 + 0) 8796093022208 (map q_in words) (omega arith) (word_qs_rise 0 p.degree (omega (arith, few))) in
      let two = lower 9895604649984 (9895604649984 + 0) 10995116277760 (map q_in rings) (omega arith) (ring_qs_rise 0 (length p.sessions) (omega (arith, sessions))) in
      let three = lower 10995116277760 (10995116277760 + 0) 12094627905536 (filter test (map q_in own)) (omega arith) (cell_qs_rise 0 (chain p) (omega (arith, cells))) in
      let late = subst (λ ws. Rises 9895604649984 ws 12094627905536) (sym (ap (filter test) (map_join q_in rings own) ∙ filter-append test (map q_in rings) (map q_in own)))
      (rises_join 9895604649984 10995116277760 12094627905536 (filter test (map q_in rings)) (filter test (map q_in own)) (rises_filter test 9895604649984 10995116277760 (map q_in rings) two) three) in
      let phase = by (test Phase) (filter test (map q_in (rings ++ own))) late in
      subst (λ ws. Rises 7696581394432 ws 12094627905536) (sym (ap (filter test) (map_join q_in words (flop Phase PhaseNext ∷ (rings ++ own))) ∙ filter-append test (map q_in words) (Phase ∷ map q_in (rings ++ own))))
      (rises_join 7696581394432 8796093022208 12094627905536 (filter test (map q_in words)) (filter test (Phase ∷ map q_in (rings ++ own))) (rises_filter test 7696581394432 8796093022208 (map q_in words) one) phase)
    where
      by : (b : Bool) (ws : List Wire) → Rises 9895604649984 ws 12094627905536 → Rises 8796093022208 (cond b (Phase ∷ ws) ws) 12094627905536
      by true ws h = (omega arith, (tt, lower (suc 8796093022208) 9895604649984 12094627905536 ws (omega arith) h))
      by false ws h = lower 8796093022208 9895604649984 12094627905536 ws (omega arith) h
