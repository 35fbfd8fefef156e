-- How many wires a self-test adds, exactly: those of the controller, of each register and of each cell.
use Rattle.std.proofs.Common.{arith, ◌≡◌, ℕ, ◌+◌, ◌*◌, zero, suc, List, [], ◌∷◌, ◌++◌, map, filter, length, Option, Some, None, refl, ap, ◌∙◌, length-append}
use Rattle.std.specs.List.{flat_map, sum_by, range_with_len}
use Rattle.std.proofs.lemmas.List.Elements.{filter-append}
use Rattle.std.proofs.lemmas.List.Sums.{sum_by-cons, sum_by-append}
use Rattle.bb_base.proofs.Lists.{map_join}
use Rattle.bb_base.specs.Net.{Gate, Flop, Netlist}
use Rattle.bb_terms.specs.OnBits.{front, last_of}
use Rattle.bb_terms.specs.declared.plan.Cell.{Cell}
use Rattle.bb_terms.specs.declared.kind.Kind.{Kind}
use Rattle.bb_terms.specs.declared.kind.Kind.TheVariants.{Input, State, Split, Cut, Watch, Output}
use Rattle.bb_terms.specs.Plan.{PlanValue, RegisterValue, chain, sessions_of}
use Rattle.bb_terms.specs.declared.wire.Wire.{Wire}
use Rattle.bb_terms.specs.declared.wire.Wire.TheVariants.{Test, Done, Parity, Feed, Phase, PhaseNext, NotOver, Live, NotPhase, Running, Shifting, First}
use Rattle.bb_terms.specs.Reads.{q_by, q_of, qs_from}
use Rattle.bb_terms.specs.Controller.{word_ahead, register_word, word_rows, start_rows, feed_rows, phase_rows, ring_rows, ring_rows_from, cycle_rows, out_row, last_q, controller}
use Rattle.bb_terms.specs.Registers.{rows_of_register, registers_from}
use Rattle.bb_written.specs.Cells.{cell_rows, rows_of_cells, all_cells_from, word_flops, ring_flops, cell_flops, flop, flops}
use Rattle.bb_written.specs.Written.{test_gates, inner_wires, is_inner}
use Rattle.bb_written.proofs.Rising.{out_of, q_in, low_out, so_out, cell_outs, outs_of_cell}
use Rattle.bb_written.proofs.Sizes.{ahead_long}
use Rattle.bb_weave.specs.Room.{wires_of_kind, wires_in_sessions, cell_wires, register_wires, controller_wires}

-- how many of these are added and no ports
abbrev inside : List Wire → ℕ
inside ws = length (filter is_inner ws)

inside_join : (vs ws : List Wire) → inside (vs ++ ws) ≡ inside vs + inside ws
inside_join vs ws = ap length (filter-append is_inner vs ws) ∙ length-append (filter is_inner vs) (filter is_inner ws)

rows_join : (xs ys : List (Gate Wire)) → inside (map out_of (xs ++ ys)) ≡ inside (map out_of xs) + inside (map out_of ys)
rows_join xs ys = ap inside (map_join out_of xs ys) ∙ inside_join (map out_of xs) (map out_of ys)

flops_join : (xs ys : List (Flop Wire)) → inside (map q_in (xs ++ ys)) ≡ inside (map q_in xs) + inside (map q_in ys)
flops_join xs ys = ap inside (map_join q_in xs ys) ∙ inside_join (map q_in xs) (map q_in ys)

-- the controller ---------------------------------------------------------------

words_inside : (i : ℕ) (ws : List Wire) → inside (map out_of (word_rows i ws)) ≡ length ws
words_inside i [] = refl
words_inside i (w ∷ ws) = ap suc (words_inside (suc i) ws)

later_rings_inside : (s more : ℕ) → inside (map out_of (ring_rows_from s more)) ≡ 4 * more + 3
later_rings_inside s zero = refl
later_rings_inside s (suc more) = omega (arith, later_rings_inside (suc s) more)

rings_inside : (sessions : ℕ) → inside (map out_of (ring_rows sessions)) ≡ 4 * sessions + 1
rings_inside zero = refl
rings_inside (suc more) = omega (arith, later_rings_inside 0 more)

start_inside : inside (map out_of start_rows) ≡ 4
start_inside = refl

feed_inside : (mask : ℕ) (bits : List Wire) → inside (map out_of (feed_rows mask bits)) ≡ 3
feed_inside mask bits = ap (λ w. inside (Parity ∷ w ∷ Feed ∷ [])) (low_out (front bits))

phase_inside : (last : Wire) → inside (map out_of (phase_rows last)) ≡ 5
phase_inside last = refl

cycle_inside : (sessions : ℕ) (last : Option Wire) → inside (map out_of (cycle_rows sessions ++ out_row last ∷ [])) ≡ 5
cycle_inside sessions last = ap (λ w. inside (NotOver ∷ Live ∷ NotPhase ∷ Running ∷ Shifting ∷ Done ∷ w ∷ [])) (so_out last)

controller_inside : (p : PlanValue) → inside (map out_of (controller p)) ≡ 18 + p.degree + 4 * length p.sessions
controller_inside p =
    let feeds : List (Gate Wire) = feed_rows p.mask (register_word p) in
    let words : List (Gate Wire) = word_rows 0 (word_ahead p) in
    let phases : List (Gate Wire) = phase_rows (last_of Test (register_word p)) in
    let rings : List (Gate Wire) = ring_rows (length p.sessions) in
    let ends : List (Gate Wire) = cycle_rows (length p.sessions) ++ out_row (last_q p) ∷ [] in
    omega (
      arith,
      rows_join start_rows (feeds ++ (words ++ (phases ++ (rings ++ ends)))),
      rows_join feeds (words ++ (phases ++ (rings ++ ends))),
      rows_join words (phases ++ (rings ++ ends)),
      rows_join phases (rings ++ ends),
      rows_join rings ends,
      start_inside,
      feed_inside p.mask (register_word p),
      words_inside 0 (word_ahead p),
      ahead_long p,
      phase_inside (last_of Test (register_word p)),
      rings_inside (length p.sessions),
      cycle_inside (length p.sessions) (last_q p),
    )

-- the registers -----------------------------------------------------------------

register_inside : (r : ℕ) (sessions : List ℕ) (before : Option Wire) (mask : ℕ) (qs : List Wire) → inside (map out_of (rows_of_register r sessions before mask qs)) ≡ wires_in_sessions sessions
register_inside r [] None mask qs = refl
register_inside r [] (Some q) mask qs = refl
register_inside r (s ∷ sessions) None mask qs = refl
register_inside r (s ∷ sessions) (Some q) mask qs = refl

registers_inside : (p : PlanValue) (r i : ℕ) (before : Option Wire) (gs : List RegisterValue) → inside (map out_of (registers_from p r i before gs)) ≡ sum_by (λ q. wires_in_sessions (sessions_of p q)) (range_with_len r (length gs))
registers_inside p r i before [] = refl
registers_inside p r i before (g ∷ gs) =
    let count : ℕ → ℕ = λ q. wires_in_sessions (sessions_of p q) in
    let here : List (Gate Wire) = rows_of_register r (sessions_of p r) before g.mask (qs_from i g.cells) in
    let after : Option Wire = last_of before (map Some (qs_from i g.cells)) in
    let rest : List (Gate Wire) = registers_from p (suc r) (i + length g.cells) after gs in
    let next : suc r ≡ r + 1 = omega arith in
    let more : inside (map out_of rest) ≡ sum_by count (range_with_len (r + 1) (length gs)) = registers_inside p (suc r) (i + length g.cells) after gs ∙ ap (λ k. sum_by count (range_with_len k (length gs))) next in
    omega (arith, rows_join here rest, register_inside r (sessions_of p r) before g.mask (qs_from i g.cells), more, sum_by-cons count r (range_with_len (r + 1) (length gs)))

-- the cells ---------------------------------------------------------------------

abbrev rows_of_kind : Kind → ℕ
rows_of_kind Input = 7
rows_of_kind State = 5
rows_of_kind Split = 5
rows_of_kind Cut = 8
rows_of_kind Watch = 3
rows_of_kind Output = 3

-- whether its bit is no flip-flop of the original
abbrev bits_of_kind : Kind → ℕ
bits_of_kind Input = 1
bits_of_kind State = 0
bits_of_kind Split = 0
bits_of_kind Cut = 1
bits_of_kind Watch = 1
bits_of_kind Output = 1

kind_counted : (k : Kind) → wires_of_kind k ≡ rows_of_kind k + bits_of_kind k
kind_counted Input = refl
kind_counted State = refl
kind_counted Split = refl
kind_counted Cut = refl
kind_counted Watch = refl
kind_counted Output = refl

outs_inside : (k : Kind) (i : ℕ) → inside (cell_outs k i) ≡ rows_of_kind k
outs_inside Input i = refl
outs_inside State i = refl
outs_inside Split i = refl
outs_inside Cut i = refl
outs_inside Watch i = refl
outs_inside Output i = refl

bit_inside : (k : Kind) (net i : ℕ) (ws : List Wire) → inside (q_by k net i ∷ ws) ≡ bits_of_kind k + inside ws
bit_inside Input net i ws = omega arith
bit_inside State net i ws = omega arith
bit_inside Split net i ws = omega arith
bit_inside Cut net i ws = omega arith
bit_inside Watch net i ws = omega arith
bit_inside Output net i ws = omega arith

cells_inside : (a : Netlist ℕ) (p : PlanValue) (r i : ℕ) (before : Wire) (cs : List Cell) → inside (map out_of (rows_of_cells a p r i before cs)) ≡ sum_by (λ c. rows_of_kind c.kind) cs
cells_inside a p r i before [] = refl
cells_inside a p r i before (c ∷ cs) =
    let count : Cell → ℕ = λ c. rows_of_kind c.kind in
    let here : List (Gate Wire) = cell_rows a p r i before c in
    let rest : List (Gate Wire) = rows_of_cells a p r (suc i) (q_of i c) cs in
    let one : inside (map out_of here) ≡ rows_of_kind c.kind = ap inside (outs_of_cell a p r i before c) ∙ outs_inside c.kind i in
    omega (arith, rows_join here rest, one, cells_inside a p r (suc i) (q_of i c) cs, sum_by-cons count c cs)

all_cells_inside : (a : Netlist ℕ) (p : PlanValue) (r i : ℕ) (gs : List RegisterValue) → inside (map out_of (all_cells_from a p r i gs)) ≡ sum_by (λ c. rows_of_kind c.kind) (flat_map (λ g. g.cells) gs)
all_cells_inside a p r i [] = refl
all_cells_inside a p r i (g ∷ gs) =
    let count : Cell → ℕ = λ c. rows_of_kind c.kind in
    let here : List (Gate Wire) = rows_of_cells a p r i (First r) g.cells in
    let rest : List (Gate Wire) = all_cells_from a p (suc r) (i + length g.cells) gs in
    omega (arith, rows_join here rest, cells_inside a p r i (First r) g.cells, all_cells_inside a p (suc r) (i + length g.cells) gs, sum_by-append count g.cells (flat_map (λ (k : RegisterValue). k.cells) gs))

bits_inside : (i : ℕ) (cs : List Cell) → inside (map q_in (cell_flops i cs)) ≡ sum_by (λ c. bits_of_kind c.kind) cs
bits_inside i [] = refl
bits_inside i (c ∷ cs) =
    let count : Cell → ℕ = λ c. bits_of_kind c.kind in
    omega (arith, bit_inside c.kind c.net i (map q_in (cell_flops (suc i) cs)), bits_inside (suc i) cs, sum_by-cons count c cs)

both_counted : (cs : List Cell) → sum_by (λ c. wires_of_kind c.kind) cs ≡ sum_by (λ c. rows_of_kind c.kind) cs + sum_by (λ c. bits_of_kind c.kind) cs
both_counted [] = refl
both_counted (c ∷ cs) =
    let all : Cell → ℕ = λ c. wires_of_kind c.kind in
    let rows : Cell → ℕ = λ c. rows_of_kind c.kind in
    let bits : Cell → ℕ = λ c. bits_of_kind c.kind in
    omega (arith, sum_by-cons all c cs, sum_by-cons rows c cs, sum_by-cons bits c cs, kind_counted c.kind, both_counted cs)

-- the flip-flops ------------------------------------------------------------------

word_bits_inside : (i k : ℕ) → inside (map q_in (word_flops i k)) ≡ k
word_bits_inside i zero = refl
word_bits_inside i (suc k) = ap suc (word_bits_inside (suc i) k)

ring_bits_inside : (s k : ℕ) → inside (map q_in (ring_flops s k)) ≡ suc k
ring_bits_inside s zero = refl
ring_bits_inside s (suc k) = ap suc (ring_bits_inside (suc s) k)

flops_inside : (p : PlanValue) → inside (map q_in (flops p)) ≡ p.degree + 2 + length p.sessions + sum_by (λ c. bits_of_kind c.kind) (chain p)
flops_inside p =
    let words : List (Flop Wire) = word_flops 0 p.degree in
    let rings : List (Flop Wire) = ring_flops 0 (length p.sessions) in
    let own : List (Flop Wire) = cell_flops 0 (chain p) in
    omega (arith, flops_join words (flop Phase PhaseNext ∷ (rings ++ own)), flops_join rings own, word_bits_inside 0 p.degree, ring_bits_inside 0 (length p.sessions), bits_inside 0 (chain p))

-- all added wires
pub wires_counted : (a : Netlist ℕ) (p : PlanValue) → length (inner_wires a p) ≡ controller_wires p + (register_wires p + cell_wires p)
wires_counted a p =
    let ctl : List (Gate Wire) = controller p in
    let regs : List (Gate Wire) = registers_from p 0 0 None p.registers in
    let own : List (Gate Wire) = all_cells_from a p 0 0 p.registers in
    omega (
      arith,
      length-append (filter is_inner (map out_of (test_gates a p))) (filter is_inner (map q_in (flops p))),
      rows_join (ctl ++ regs) own,
      rows_join ctl regs,
      controller_inside p,
      registers_inside p 0 0 None p.registers,
      all_cells_inside a p 0 0 p.registers,
      flops_inside p,
      both_counted (chain p),
    )
