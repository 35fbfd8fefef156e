-- How many cells, registers, sessions and rows a valid plan has.
use Rattle.std.proofs.Common.{◌≡◌, ℕ, zero, suc, ◌+◌, ◌*◌, ◌^◌, ◌<◌, ◌≤◌, ◌++◌, List, [], ◌∷◌, length, length-append, map, take, Option, Some, None, slice_get, refl, sym, ap, subst, ◌∙◌, arith}
use Rattle.std.proofs.Math.Nat.{pow-le-pow_right}
use Rattle.std.proofs.Math.Seq.{take-length}
use Rattle.std.specs.List.{flat_map}
use Rattle.bb_base.specs.Places.{EachAt}
use Rattle.bb_base.proofs.Lists.{get_some}
use Rattle.bb_base.specs.Net.{Gate, Netlist}
use Rattle.bb_terms.specs.OnBits.{shifted, last_of}
use Rattle.bb_terms.specs.Plan.{PlanValue, RegisterValue, chain, sessions_of}
use Rattle.bb_terms.specs.Rules.{Frame, Registers, Sessions, Room, IsSession}
use Rattle.bb_terms.specs.Valid.{IsValidPlan}
use Rattle.bb_terms.specs.declared.wire.Wire.{Wire}
use Rattle.bb_terms.specs.declared.wire.Wire.TheVariants.{Test, Feed}
use Rattle.bb_terms.specs.Reads.{qs_from}
use Rattle.bb_ctl.specs.Numbers.{HasNumbers}
use Rattle.bb_terms.specs.Controller.{word_from, register_word, word_ahead, word_rows, phase_rows, ring_rows, ring_rows_from, cycle_rows, out_row, last_q, controller}
use Rattle.bb_terms.specs.Registers.{rows_of_register, registers_from, control_rows}

-- lists that each have an item are no more than their items
no_more : {X Y : Type 0} (f : X → List Y) (xs : List X) → ((i : ℕ) (x : X) → slice_get xs i ≡ Some x → 1 ≤ length (f x)) → length xs ≤ length (flat_map f xs)
no_more f [] h = omega arith
no_more f (x ∷ xs) h = omega (arith, length-append (f x) (flat_map f xs), h 0 x refl, no_more f xs (λ i y e. h (suc i) y e))

-- so there are as few sessions as the registers that they list
few_sessions : (p : PlanValue) → EachAt p.sessions (IsSession p) → length p.sessions ≤ 2097152
few_sessions p h = by p.sessions refl
  where
    by : (sessions : List (List ℕ)) → p.sessions ≡ sessions → length p.sessions ≤ 2097152
    by [] e = omega (arith, ap length e)
    by (session ∷ rest) e =
        let long : suc (length rest) ≡ length p.sessions = sym (ap length e) in
        let last = get_some p.sessions (length rest) (omega (arith, long)) in
        let listed : ℕ = length (flat_map (λ x. x) (take (suc (length rest)) p.sessions)) in
        let all : take (suc (length rest)) p.sessions ≡ p.sessions = ap (λ n. take n p.sessions) long ∙ take-length p.sessions in
        let few : length (flat_map (λ x. x) p.sessions) ≤ 2097152 = subst (λ ss. length (flat_map (λ x. x) ss) ≤ 2097152) all (h (length rest) last.0 last.1).few in
        omega (arith, few, no_more (λ x. x) p.sessions (λ i x at. (h i x at).some))

pub record IsSmall (p : PlanValue) : Type 0 where
  pub degree : p.degree ≤ 20
  pub cells : length (chain p) ≤ 1048576
  pub registers : length p.registers ≤ 1048576
  pub sessions : length p.sessions ≤ 2097152

pub valid_is_small : (a : Netlist ℕ) (p : PlanValue) → IsValidPlan a p → IsSmall p
valid_is_small a p h =
    let most : p.degree ≤ 20 = (h.meets Frame).degree_most in
    let power : 2 ^ p.degree ≤ 2 ^ 20 = pow-le-pow_right (omega arith) most in
    let cells : length (chain p) ≤ 1048576 = omega (arith, h.meets Room, power) in
    record {
      degree = most;
      cells = cells;
      registers = omega (arith, cells, no_more (λ (g : RegisterValue). g.cells) p.registers (λ r g at. (h.meets Registers r g at).some));
      sessions = few_sessions p (h.meets Sessions);
    }

-- the cells, registers and sessions of a valid plan have numbers of 32 bits
pub valid_has_numbers : (a : Netlist ℕ) (p : PlanValue) → IsValidPlan a p → HasNumbers p
valid_has_numbers a p h = let small = valid_is_small a p h in record { cells = omega (arith, small.cells); registers = omega (arith, small.registers); sessions = omega (arith, small.sessions) }

word_count : (i : ℕ) (x : Wire) (j n : ℕ) → length (word_rows i (shifted x (word_from j n))) ≡ n
word_count i x j zero = refl
word_count i x j (suc n) = ap suc (word_count (suc i) _ (suc j) n)

later_ring_count : (s more : ℕ) → length (ring_rows_from s more) ≡ 4 * more + 3
later_ring_count s zero = refl
later_ring_count s (suc more) = omega (arith, later_ring_count (suc s) more)

ring_count : (sessions : ℕ) → length (ring_rows sessions) ≤ 4 * sessions + 1
ring_count zero = omega arith
ring_count (suc more) = omega (arith, later_ring_count 0 more)

register_count : (r : ℕ) (sessions : List ℕ) (before : Option Wire) (mask : ℕ) (qs : List Wire) → length (rows_of_register r sessions before mask qs) ≤ 10
register_count r [] before mask qs = omega arith
register_count r (s ∷ sessions) before mask qs = omega arith

registers_count : (p : PlanValue) (r i : ℕ) (before : Option Wire) (gs : List RegisterValue) → length (registers_from p r i before gs) ≤ 10 * length gs
registers_count p r i before [] = omega arith
registers_count p r i before (g ∷ gs) =
    let own : List (Gate Wire) = rows_of_register r (sessions_of p r) before g.mask (qs_from i g.cells) in
    let after : Option Wire = last_of before (map Some (qs_from i g.cells)) in
    let others : List (Gate Wire) = registers_from p (suc r) (i + length g.cells) after gs in
    omega (arith, length-append own others, register_count r (sessions_of p r) before g.mask (qs_from i g.cells), registers_count p (suc r) (i + length g.cells) after gs)

controller_count : (p : PlanValue) → length (controller p) ≤ p.degree + 4 * length p.sessions + 20
controller_count p =
    let last : Wire = last_of Test (register_word p) in
    let sessions : ℕ = length p.sessions in
    let ends : List (Gate Wire) = out_row (last_q p) ∷ [] in
    let cycles : List (Gate Wire) = cycle_rows sessions ++ ends in
    let rings : List (Gate Wire) = ring_rows sessions ++ cycles in
    let phases : List (Gate Wire) = phase_rows last ++ rings in
    let words : List (Gate Wire) = word_rows 0 (word_ahead p) ++ phases in
    let ring : length rings ≤ 4 * sessions + 8 = omega (arith, length-append (ring_rows sessions) cycles, ring_count sessions) in
    let word : length words ≤ p.degree + 4 * sessions + 13 = omega (arith, length-append (word_rows 0 (word_ahead p)) phases, word_count 0 Feed 0 p.degree, ring) in
    omega (arith, word)

-- a valid plan has few rows
pub rows_are_few : (a : Netlist ℕ) (p : PlanValue) → IsValidPlan a p → length (control_rows p) < 2 ^ 31
rows_are_few a p h =
    let small = valid_is_small a p h in
    omega (arith, length-append (controller p) (registers_from p 0 0 None p.registers), controller_count p, registers_count p 0 0 None p.registers, small.degree, small.registers, small.sessions)
