-- Each row of a valid plan has as many inputs as its operator takes.
use Rattle.std.proofs.Common.{◌≡◌, ℕ, zero, suc, ◌+◌, ◌-◌, ◌*◌, ◌/◌, ◌%◌, ◌^◌, ◌<◌, ◌≤◌, ◌==◌, ◌++◌, Bool, true, false, List, [], ◌∷◌, length, map, Option, Some, None, if◌then◌else◌, refl, sym, ap, subst, arith}
use Rattle.std.proofs.lemmas.Bool.Decides.{nat_tests}
use Rattle.std.proofs.lemmas.Nat.{pow_pos}
use Rattle.std.proofs.Math.Nat.{pow-suc}
use Rattle.std.specs.List.{AllByRecursion}
use Rattle.bb_base.proofs.Contained.{by_place}
use Rattle.bb_base.proofs.Lists.{all_join}
use Rattle.bb_base.specs.Net.{Gate, Netlist, HasArity}
use Rattle.bb_base.specs.Bits.{picked}
use Rattle.bb_terms.specs.OnBits.{last_of, front}
use Rattle.bb_terms.specs.Register.{IsMask}
use Rattle.bb_terms.specs.Plan.{PlanValue, RegisterValue, sessions_of}
use Rattle.bb_terms.specs.Rules.{Frame, Registers, IsFrame, IsRegister}
use Rattle.bb_terms.specs.Valid.{IsValidPlan}
use Rattle.bb_terms.specs.declared.wire.Wire.{Wire}
use Rattle.bb_terms.specs.declared.wire.Wire.TheVariants.{Test}
use Rattle.bb_terms.specs.Reads.{qs_from}
use Rattle.bb_terms.specs.Controller.{word_from, register_word, word_ahead, word_rows, low_row, start_rows, feed_rows, phase_rows, ring_rows, ring_rows_from, cycle_rows, out_row, last_q, controller}
use Rattle.bb_terms.specs.Registers.{pass_row, carry_row, rows_of_register, registers_from, control_rows}
use Rattle.bb_ctl.proofs.ChainLemmas.{qs_long}

-- a mask that is not 0 picks some of its items
picked_some : {X : Type 0} (mask : ℕ) (xs : List X) → 1 ≤ mask → mask < 2 ^ length xs → 0 < length (picked mask xs)
picked_some mask [] least below = absurd (omega (arith, least, below))
picked_some mask (x ∷ xs) least below = by (mask % 2 == 1) refl (λ half. picked_some (mask / 2) xs half (let twice : 2 ^ suc (length xs) ≡ 2 ^ length xs * 2 = pow-suc 2 (length xs) in omega (arith, below, twice)))
  where
    by : (b : Bool) → (mask % 2 == 1) ≡ b → (1 ≤ mask / 2 → 0 < length (picked (mask / 2) xs)) → 0 < length (if b then x ∷ picked (mask / 2) xs else picked (mask / 2) xs)
    by true e rest = omega arith
    by false e rest = rest (let even : mask % 2 ≡ 0 = grind (arith, nat_tests, e) in omega (arith, even, least))

-- so does a mask of so many bits
mask_picks : (mask : ℕ) (xs : List Wire) → IsMask (length xs) mask → 0 < length (picked mask xs)
mask_picks mask xs h = picked_some mask xs (let some = pow_pos (length xs - 1) in omega (arith, some, h.last)) h.below

long_word : (i n : ℕ) → length (word_from i n) ≡ n
long_word i zero = refl
long_word i (suc n) = ap suc (long_word (suc i) n)

two : 0 < 2
two = omega arith

start_arities : AllByRecursion HasArity start_rows
start_arities = (refl, (refl, (two, (refl, tt))))

low_arity : (ws : List Wire) → HasArity (low_row ws)
low_arity [] = refl
low_arity (w ∷ ws) = omega arith

word_arities : (i : ℕ) (ws : List Wire) → AllByRecursion HasArity (word_rows i ws)
word_arities i [] = tt
word_arities i (w ∷ ws) = (two, word_arities (suc i) ws)

phase_arities : (last : Wire) → AllByRecursion HasArity (phase_rows last)
phase_arities last = (two, (two, (two, (two, (refl, tt)))))

later_ring_arities : (s more : ℕ) → AllByRecursion HasArity (ring_rows_from s more)
later_ring_arities s zero = (two, (two, (two, tt)))
later_ring_arities s (suc more) = (two, (two, (two, (two, later_ring_arities (suc s) more))))

ring_arities : (sessions : ℕ) → AllByRecursion HasArity (ring_rows sessions)
ring_arities zero = (refl, tt)
ring_arities (suc more) = (two, (two, later_ring_arities 0 more))

cycle_arities : (sessions : ℕ) → AllByRecursion HasArity (cycle_rows sessions)
cycle_arities sessions = (refl, (two, (refl, (two, (two, (two, tt))))))

out_arity : (q : Option Wire) → HasArity (out_row q)
out_arity None = refl
out_arity (Some q) = two

pass_arity : (r : ℕ) (q : Option Wire) → HasArity (pass_row r q)
pass_arity r None = refl
pass_arity r (Some q) = refl

carry_arity : (r : ℕ) (q : Option Wire) → HasArity (carry_row r q)
carry_arity r None = refl
carry_arity r (Some q) = two

register_arities : (r : ℕ) (sessions : List ℕ) (before : Option Wire) (mask : ℕ) (qs : List Wire) → IsMask (length qs) mask → AllByRecursion HasArity (rows_of_register r sessions before mask qs)
register_arities r [] before mask qs h = (refl, (refl, (refl, (pass_arity r before, tt))))
register_arities r (s ∷ sessions) before mask qs h = (omega arith, (two, (two, (two, (refl, (two, (mask_picks mask qs h, (two, (carry_arity r before, (two, tt))))))))))

all_register_arities : (p : PlanValue) (r i : ℕ) (before : Option Wire) (gs : List RegisterValue) → AllByRecursion IsRegister gs → AllByRecursion HasArity (registers_from p r i before gs)
all_register_arities p r i before [] h = tt
all_register_arities p r i before (g ∷ gs) h =
    let qs : List Wire = qs_from i g.cells in
    let after : Option Wire = last_of before (map Some qs) in
    let mask : IsMask (length qs) g.mask = subst (λ n. IsMask n g.mask) (sym (qs_long i g.cells)) h.0.mask_fits in
    all_join HasArity (rows_of_register r (sessions_of p r) before g.mask qs) (registers_from p (suc r) (i + length g.cells) after gs) (register_arities r (sessions_of p r) before g.mask qs mask) (all_register_arities p (suc r) (i + length g.cells) after gs h.1)

controller_arities : (p : PlanValue) → IsFrame p → AllByRecursion HasArity (controller p)
controller_arities p h =
    let word : List Wire = register_word p in
    let last : Wire = last_of Test word in
    let sessions : ℕ = length p.sessions in
    let mask : IsMask (length word) p.mask = subst (λ n. IsMask n p.mask) (sym (long_word 0 p.degree)) h.mask_fits in
    let ends : List (Gate Wire) = out_row (last_q p) ∷ [] in
    let cycles : List (Gate Wire) = cycle_rows sessions ++ ends in
    let rings : List (Gate Wire) = ring_rows sessions ++ cycles in
    let phases : List (Gate Wire) = phase_rows last ++ rings in
    let words : List (Gate Wire) = word_rows 0 (word_ahead p) ++ phases in
    let feeds : List (Gate Wire) = feed_rows p.mask word ++ words in
    all_join HasArity start_rows feeds start_arities
    (all_join HasArity (feed_rows p.mask word) words (mask_picks p.mask word mask, (low_arity (front word), (two, tt)))
    (all_join HasArity (word_rows 0 (word_ahead p)) phases (word_arities 0 (word_ahead p))
    (all_join HasArity (phase_rows last) rings (phase_arities last)
    (all_join HasArity (ring_rows sessions) cycles (ring_arities sessions) (all_join HasArity (cycle_rows sessions) ends (cycle_arities sessions) (out_arity (last_q p), tt))))))

pub rows_have_arities : (a : Netlist ℕ) (p : PlanValue) → IsValidPlan a p → AllByRecursion HasArity (control_rows p)
rows_have_arities a p h =
    all_join HasArity (controller p) (registers_from p 0 0 None p.registers) (controller_arities p (h.meets Frame)) (all_register_arities p 0 0 None p.registers (by_place IsRegister p.registers (h.meets Registers)))
