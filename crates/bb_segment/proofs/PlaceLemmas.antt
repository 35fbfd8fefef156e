-- Gates at places of the order.
use Rattle.std.proofs.Common.{arith, rules, ◌≡◌, ℕ, ◌+◌, ◌<◌, ◌≤◌, ◌^◌, ◌==◌, Bool, true, false, List, length, refl, sym, ap, subst, ◌∙◌, get_or, slice_get, Some, Contains, nat_eq}
use Rattle.std.proofs.lemmas.Bool.Decides.{nat_tests}
use Rattle.std.specs.Set.{distinct_count}
use Rattle.std.specs.List.{range_with_len}
use Rattle.std.specs.Prelude.{All}
use Rattle.std.proofs.lemmas.Option.{slice_get_within, slice_get-get_or}
use Rattle.std.proofs.lemmas.List.Sorted.{Contains-permutation, length_permutation, All-permutation}
use Rattle.std.proofs.lemmas.List.FromFn.{length-range_with_len, get_or-range_with_len}
use Rattle.bb_base.specs.Net.{Gate, Netlist, driven, IsNetlist}
use Rattle.bb_base.proofs.GateLemmas.{gates_fit}
use Rattle.bb_base.specs.Levels.{AreGates}
use Rattle.bb_base.specs.Order.{IsOrder}
use Rattle.bb_base.proofs.CycleLemmas.{follows}
use Rattle.bb_terms.specs.Cuts.{StandsAt, IsFirstWide}
use Rattle.bb_base.proofs.Contained.{place_of, contains_at}
use Rattle.bb_segment.proofs.SetLemmas.{in_range}

pub gate_of : (gates : List (Gate ℕ)) (order : List ℕ) (place : ℕ) (g : Gate ℕ) → StandsAt gates order place g → Contains gates g
gate_of gates order place g s = contains_at gates s.number g s.stands

pub place_low : (gates : List (Gate ℕ)) (order : List ℕ) (place : ℕ) (g : Gate ℕ) → StandsAt gates order place g → place < length order
place_low gates order place g s = slice_get_within order place s.number s.ordered

-- one gate stands at a place
pub one_at : (gates : List (Gate ℕ)) (order : List ℕ) (place : ℕ) (f g : Gate ℕ) → StandsAt gates order place f → StandsAt gates order place g → f ≡ g
one_at gates order place f g s t =
    let both : Some s.number ≡ Some t.number = sym s.ordered ∙ t.ordered in
    let number : s.number ≡ t.number = cc both in
    let gate : Some f ≡ Some g = sym s.stands ∙ (ap (slice_get gates) number ∙ t.stands) in
    cc gate

pub order_long : (gates : List (Gate ℕ)) (order : List ℕ) → IsOrder gates order → length order ≡ length gates
order_long gates order o = length_permutation (range_with_len 0 (length gates)) order o.each_once ∙ length-range_with_len 0 (length gates)

-- each gate has a place
pub place_for : (gates : List (Gate ℕ)) (order : List ℕ) (g : Gate ℕ) → IsOrder gates order → Contains gates g → (place : ℕ) × StandsAt gates order place g
place_for gates order g o c =
    let h = place_of gates g c in
    let inside = slice_get_within gates h.0 g h.1 in
    let there = place_of order h.0 (Contains-permutation (range_with_len 0 (length gates)) order h.0 o.each_once (in_range (length gates) h.0 inside)) in
    (there.0, record { number = h.0; ordered = there.1; stands = h.1 })

-- two gates don't drive one net
pub one_gate : (nets : ℕ) (gates : List (Gate ℕ)) (f g : Gate ℕ) → AreGates nets gates → Contains gates f → Contains gates g → f.out ≡ g.out → f ≡ g
one_gate nets gates f g fit c d same =
    let at = place_of gates f c in
    let there = place_of gates g d in
    let place : at.0 ≡ there.0 = fit.apart at.0 there.0 f g at.1 there.1 same in
    let both : Some f ≡ Some g = sym at.1 ∙ (ap (slice_get gates) place ∙ there.1) in
    cc both

-- the gate that drives an input stands earlier
pub earlier :
    (gates : List (Gate ℕ)) (order : List ℕ) (p q : ℕ) (g f : Gate ℕ) → IsOrder gates order → StandsAt gates order p g → StandsAt gates order q f → Contains g.ins f.out → q < p
earlier gates order p q g f o s t reads = follows gates order p q s.number t.number o s.ordered t.ordered (record { gate = g; stands = s.stands; source = f; source_stands = t.stands; reads = reads })

range_low : (count : ℕ) → All (λ n. n < count) (range_with_len 0 count)
range_low count i d less =
    let long = length-range_with_len 0 count in
    let at = get_or-range_with_len 0 count i d (omega (arith, less, long)) in
    omega (arith, at, less, long)

-- the number at a place is a gate's
pub number_low : (gates : List (Gate ℕ)) (order : List ℕ) (place : ℕ) → IsOrder gates order → place < length order → get_or order place 0 < length gates
number_low gates order place o less = All-permutation (λ n. n < length gates) (range_with_len 0 (length gates)) order o.each_once (range_low (length gates)) place 0 less

pub stands_read : (gates : List (Gate ℕ)) (order : List ℕ) (place : ℕ) (g : Gate ℕ) → IsOrder gates order → place < length order → g ≡ get_or gates (get_or order place 0) g → StandsAt gates order place g
stands_read gates order place g o less is = record {
  number = get_or order place 0;
  ordered = slice_get-get_or order place 0 less;
  stands = slice_get-get_or gates (get_or order place 0) g (number_low gates order place o less) ∙ ap Some (sym is);
}

-- the first gate with so many inputs
pub first_wide : (gates : List (Gate ℕ)) (number width inputs : ℕ) (g : Gate ℕ) → number < length gates → g ≡ get_or gates number g → inputs ≡ distinct_count nat_eq g.ins → width < inputs
    → ((h : ℕ) (f : Gate ℕ) → h < number → slice_get gates h ≡ Some f → distinct_count nat_eq f.ins ≤ width) → IsFirstWide gates width number inputs
first_wide gates number width inputs g less is count wide before = record { gate = g; stands = slice_get-get_or gates number g less ∙ ap Some (sym is); count = count; wide = wide; before = before }

-- one more gate that is narrow
pub narrow_more : (gates : List (Gate ℕ)) (number width : ℕ) (g : Gate ℕ) → number < length gates → g ≡ get_or gates number g → distinct_count nat_eq g.ins ≤ width
    → ((h : ℕ) (f : Gate ℕ) → h < number → slice_get gates h ≡ Some f → distinct_count nat_eq f.ins ≤ width) → (h : ℕ) (f : Gate ℕ) → h < number + 1 → slice_get gates h ≡ Some f → distinct_count nat_eq f.ins ≤ width
narrow_more gates number width g less is few before h f small at = by (h == number) refl
  where
    by : (b : Bool) → (h == number) ≡ b → distinct_count nat_eq f.ins ≤ width
    by true e =
        let same : h ≡ number = search (rules, e) in
        let both : Some f ≡ Some g = sym at ∙ (ap (slice_get gates) same ∙ (slice_get-get_or gates number g less ∙ ap Some (sym is))) in
        let one : f ≡ g = cc both in
        subst (λ (x : Gate ℕ). distinct_count nat_eq x.ins ≤ width) (sym one) few
    by false e = before h f (grind (arith, nat_tests, small, e)) at

-- the gates of a netlist
pub fit_of : (n : Netlist ℕ) (gates : List (Gate ℕ)) (nets : ℕ) → IsNetlist n → gates ≡ n.gates → nets ≡ length (driven n) → nets < 2 ^ 32 → AreGates nets gates
fit_of n gates nets is same count few =
    subst (AreGates nets) (sym same) (subst (λ k. AreGates k n.gates) (sym count) (gates_fit n is (subst (λ k. k < 2 ^ 32) count few)))
