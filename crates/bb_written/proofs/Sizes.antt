-- How many gates and flip-flops a self-test adds at most.
use Rattle.std.proofs.Common.{arith, ◌≡◌, ℕ, ◌+◌, ◌*◌, ◌≤◌, zero, suc, Bool, true, false, cond, List, [], ◌∷◌, ◌++◌, map, filter, length, Option, Some, None, refl, ap, ◌∙◌, length-append}
use Rattle.std.specs.List.{flat_map}
use Rattle.bb_base.proofs.Lists.{length_map}
use Rattle.bb_base.specs.Net.{Netlist}
use Rattle.bb_terms.proofs.Growth.{length_shifted}
use Rattle.bb_terms.specs.declared.plan.Cell.{Cell}
use Rattle.bb_terms.specs.declared.kind.Kind.{Kind}
use Rattle.bb_terms.specs.declared.kind.Kind.TheVariants.{Input, State, Split, Cut, Watch, Output}
use Rattle.bb_terms.specs.Plan.{PlanValue, RegisterValue, chain, sessions_of}
use Rattle.bb_terms.specs.OnBits.{last_of}
use Rattle.bb_terms.specs.declared.wire.Wire.{Wire}
use Rattle.bb_terms.specs.declared.wire.Wire.TheVariants.{Feed, First, Test, Phase, PhaseNext}
use Rattle.bb_terms.specs.Reads.{q_of, qs_from}
use Rattle.bb_terms.specs.Controller.{word_from, register_word, word_ahead, word_rows, phase_rows, ring_rows, ring_rows_from, cycle_rows, out_row, last_q, controller}
use Rattle.bb_terms.specs.Registers.{rows_of_register, registers_from}
use Rattle.bb_written.specs.Cells.{cell_rows, rows_of_cells, all_cells_from, word_flops, ring_flops, cell_flops, flop, flops}
use Rattle.bb_written.specs.Written.{test_gates, inner_wires, is_inner}
use Rattle.bb_written.proofs.Rising.{out_of, q_in, cell_outs, outs_of_cell, cells_in}

-- a filter leaves no more
pub filter_short : {X : Type 0} (test : X → Bool) (xs : List X) → length (filter test xs) ≤ length xs
filter_short test [] = omega arith
filter_short {X} test (x ∷ xs) = by (test x) (filter_short test xs)
  where
    by : (b : Bool) → length (filter test xs) ≤ length xs → length (cond b (x ∷ filter test xs) (filter test xs)) ≤ suc (length xs)
    by true rest = omega (arith, rest)
    by false rest = omega (arith, rest)

pub word_long : (i k : ℕ) → length (word_from i k) ≡ k
word_long i zero = refl
word_long i (suc k) = ap suc (word_long (suc i) k)

pub ahead_long : (p : PlanValue) → length (word_ahead p) ≡ p.degree
ahead_long p = length_shifted Feed (register_word p) ∙ word_long 0 p.degree

word_rows_long : (i : ℕ) (ws : List Wire) → length (word_rows i ws) ≡ length ws
word_rows_long i [] = refl
word_rows_long i (w ∷ ws) = ap suc (word_rows_long (suc i) ws)

rings_from_long : (s k : ℕ) → length (ring_rows_from s k) ≡ 4 * k + 3
rings_from_long s zero = refl
rings_from_long s (suc k) = omega (arith, rings_from_long (suc s) k)

rings_long : (k : ℕ) → length (ring_rows k) ≤ 4 * k + 1
rings_long zero = omega arith
rings_long (suc k) = omega (arith, rings_from_long 0 k)

controller_long : (p : PlanValue) → length (controller p) ≤ 20 + p.degree + 4 * length p.sessions
controller_long p =
    let words = word_rows 0 (word_ahead p) in
    let phases = phase_rows (last_of Test (register_word p)) in
    let rings = ring_rows (length p.sessions) in
    let ends = cycle_rows (length p.sessions) ++ out_row (last_q p) ∷ [] in
    omega (arith, length-append words (phases ++ (rings ++ ends)), length-append rings ends, word_rows_long 0 (word_ahead p), ahead_long p, rings_long (length p.sessions))

register_long : (r : ℕ) (ss : List ℕ) (before : Option Wire) (mask : ℕ) (qs : List Wire) → length (rows_of_register r ss before mask qs) ≤ 10
register_long r [] before mask qs = omega arith
register_long r (s ∷ ss) before mask qs = omega arith

registers_long : (p : PlanValue) (r i : ℕ) (before : Option Wire) (gs : List RegisterValue) → length (registers_from p r i before gs) ≤ 10 * length gs
registers_long p r i before [] = omega arith
registers_long p r i before (g ∷ gs) =
    let here = rows_of_register r (sessions_of p r) before g.mask (qs_from i g.cells) in
    let rest = registers_from p (suc r) (i + length g.cells) (last_of before (map Some (qs_from i g.cells))) gs in
    omega (arith, length-append here rest, register_long r (sessions_of p r) before g.mask (qs_from i g.cells), registers_long p (suc r) (i + length g.cells) (last_of before (map Some (qs_from i g.cells))) gs)

outs_long : (k : Kind) (i : ℕ) → length (cell_outs k i) ≤ 8
outs_long Input i = omega arith
outs_long State i = omega arith
outs_long Split i = omega arith
outs_long Cut i = omega arith
outs_long Watch i = omega arith
outs_long Output i = omega arith

cell_long : (a : Netlist ℕ) (p : PlanValue) (r i : ℕ) (before : Wire) (c : Cell) → length (cell_rows a p r i before c) ≤ 8
cell_long a p r i before c = omega (arith, outs_long c.kind i, ap length (outs_of_cell a p r i before c), length_map out_of (cell_rows a p r i before c))

cells_long : (a : Netlist ℕ) (p : PlanValue) (r i : ℕ) (before : Wire) (cs : List Cell) → length (rows_of_cells a p r i before cs) ≤ 8 * length cs
cells_long a p r i before [] = omega arith
cells_long a p r i before (c ∷ cs) =
    omega (arith, length-append (cell_rows a p r i before c) (rows_of_cells a p r (suc i) (q_of i c) cs), cell_long a p r i before c, cells_long a p r (suc i) (q_of i c) cs)

all_cells_long : (a : Netlist ℕ) (p : PlanValue) (r i : ℕ) (gs : List RegisterValue) → length (all_cells_from a p r i gs) ≤ 8 * cells_in gs
all_cells_long a p r i [] = omega arith
all_cells_long a p r i (g ∷ gs) =
    omega (arith, length-append (rows_of_cells a p r i (First r) g.cells) (all_cells_from a p (suc r) (i + length g.cells) gs), cells_long a p r i (First r) g.cells, all_cells_long a p (suc r) (i + length g.cells) gs)

pub cells_counted : (gs : List RegisterValue) → cells_in gs ≡ length (flat_map (λ g. g.cells) gs)
cells_counted [] = refl
cells_counted (g ∷ gs) = omega (arith, cells_counted gs, length-append g.cells (flat_map (λ k. k.cells) gs))

pub gates_long : (a : Netlist ℕ) (p : PlanValue) → length (test_gates a p) ≤ 20 + p.degree + 4 * length p.sessions + 10 * length p.registers + 8 * length (chain p)
gates_long a p =
    let ctl = controller p in
    let regs = registers_from p 0 0 None p.registers in
    let own = all_cells_from a p 0 0 p.registers in
    omega (arith, length-append (ctl ++ regs) own, length-append ctl regs, controller_long p, registers_long p 0 0 None p.registers, all_cells_long a p 0 0 p.registers, cells_counted p.registers)

word_flops_long : (i k : ℕ) → length (word_flops i k) ≡ k
word_flops_long i zero = refl
word_flops_long i (suc k) = ap suc (word_flops_long (suc i) k)

ring_flops_long : (s k : ℕ) → length (ring_flops s k) ≡ suc k
ring_flops_long s zero = refl
ring_flops_long s (suc k) = ap suc (ring_flops_long (suc s) k)

cell_flops_long : (i : ℕ) (cs : List Cell) → length (cell_flops i cs) ≡ length cs
cell_flops_long i [] = refl
cell_flops_long i (c ∷ cs) = ap suc (cell_flops_long (suc i) cs)

pub flops_long : (p : PlanValue) → length (flops p) ≡ p.degree + 2 + length p.sessions + length (chain p)
flops_long p =
    let rings = ring_flops 0 (length p.sessions) in
    let own = cell_flops 0 (chain p) in
    omega (arith, length-append (word_flops 0 p.degree) (flop Phase PhaseNext ∷ (rings ++ own)), length-append rings own, word_flops_long 0 p.degree, ring_flops_long 0 (length p.sessions), cell_flops_long 0 (chain p))

-- the added wires
pub inner_long : (a : Netlist ℕ) (p : PlanValue) → length (inner_wires a p) ≤ 22 + 2 * p.degree + 5 * length p.sessions + 10 * length p.registers + 9 * length (chain p)
inner_long a p =
    let outs = map out_of (test_gates a p) in
    let qs = map q_in (flops p) in
    omega (arith, length-append (filter is_inner outs) (filter is_inner qs), filter_short is_inner outs, filter_short is_inner qs, length_map out_of (test_gates a p), length_map q_in (flops p), gates_long a p, flops_long p)
