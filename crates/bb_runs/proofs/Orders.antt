-- Gates all of whose ways back end have an order, and it is one.
use Rattle.std.proofs.Common.{arith, ◌≡◌, inl, inr, ℕ, suc, zero, ◌+◌, ◌<◌, Bool, true, false, List, [], ◌∷◌, length, refl, sym, ap, ◌∙◌, subst, slice_get, nat_lt, Some, None}
use Rattle.std.proofs.lemmas.Bool.Decides.{nat_tests}
use Rattle.std.proofs.lemmas.List.Elements.{All-from_recursion, recursion_from_All}
use Rattle.std.proofs.lemmas.List.Sorted.{All-permutation, Contains-permutation, IsPermutation-sym}
use Rattle.std.specs.Prelude.{Option}
use Rattle.std.specs.List.{AllByRecursion, list_all, range_with_len}
use Rattle.bb_base.specs.Net.{Gate}
use Rattle.bb_base.specs.Order.{is_within, HasLevel, IsOrder, HasOrder, ComesBefore}
use Rattle.bb_base.specs.Levels.{inputs_in, inputs_at}
use Rattle.bb_base.proofs.Contained.{at_place}
use Rattle.bb_base.proofs.Lists.{get_some}
use Rattle.bb_runs.proofs.Within.{passes_all, first_of, first_passes, first_before, ReadBelow}
use Rattle.bb_netlist.proofs.Sorting.{Ascends, pairs_ascend, never_both, sorted_by, same_ascending}

-- where all nets' ways back end ---------------------------------------------

module _ (gates : List (Gate ℕ)) (nets k : ℕ) (read : ReadBelow nets gates) (ends : (m : ℕ) → m < nets → is_within gates k m ≡ true) where
  -- inputs of a gate, by its number
  ins_end : (h : ℕ) → list_all (is_within gates k) (inputs_at gates h) ≡ true
  ins_end h = go (slice_get gates h) refl
    where
      go : (o : Option (Gate ℕ)) → slice_get gates h ≡ o → list_all (is_within gates k) (inputs_in o) ≡ true
      go None e = refl
      go (Some g) e = passes_all (is_within gates k) (λ n. n < nets) ends g.ins (at_place (λ (x : Gate ℕ). AllByRecursion (λ n. n < nets) x.ins) gates h g read e)

  abbrev level : ℕ → ℕ
  level h = first_of (λ j. list_all (is_within gates j) (inputs_at gates h)) k

  levels : (h : ℕ) (g : Gate ℕ) → slice_get gates h ≡ Some g → HasLevel gates g (level h)
  levels h g at = record {
    within = subst (λ ns. list_all (is_within gates (level h)) ns ≡ true) same (first_passes (λ j. list_all (is_within gates j) (inputs_at gates h)) k (ins_end h));
    least = λ j less. subst (λ ns. list_all (is_within gates j) ns ≡ false) same (first_before (λ j. list_all (is_within gates j) (inputs_at gates h)) k j less);
  }
    where
      same : inputs_at gates h ≡ g.ins
      same = ap inputs_in at

  pub ordered : HasOrder gates
  ordered =
      let sorted = sorted_by level (length gates) in
      (sorted.0, record { level = level; levels = levels; each_once = sorted.1.each_once; ascending = sorted.1.ascending })

-- one order -----------------------------------------------------------------

-- a gate has one level
pub one_level : (gates : List (Gate ℕ)) (g : Gate ℕ) (a b : ℕ) → HasLevel gates g a → HasLevel gates g b → a ≡ b
one_level gates g a b here there = by (nat_lt a b) refl (nat_lt b a) refl
  where
    by : (s : Bool) → nat_lt a b ≡ s → (t : Bool) → nat_lt b a ≡ t → a ≡ b
    by true e t f = absurd (cc (here.within, there.least a (grind (arith, nat_tests, e))))
    by false e true f = absurd (cc (there.within, here.least b (grind (arith, nat_tests, f))))
    by false e false f = grind (arith, nat_tests, e, f)

-- items with a fact ascend as well by what the fact makes of it
ascend_as : {X : Type 0} (R S : X → X → Type 0) (P : X → Type 0) → ((x y : X) → P x → P y → R x y → S x y) → (xs : List X) → AllByRecursion P xs → Ascends R xs → Ascends S xs
ascend_as R S P more [] all rise = tt
ascend_as R S P more (x ∷ xs) all rise = (each xs all.1 rise.0, ascend_as R S P more xs all.1 rise.1)
  where
    each : (ys : List _) → AllByRecursion P ys → AllByRecursion (R x) ys → AllByRecursion (S x) ys
    each [] p r = tt
    each (y ∷ ys) p r = (more x y all.0 p.0 r.0, each ys p.1 r.1)

range_below : (first n : ℕ) → AllByRecursion (λ m. m < first + n) (range_with_len first n)
range_below first zero = tt
range_below first (suc n) =
    let next : first + 1 + n ≡ first + suc n = omega arith in
    (omega arith, subst (λ t. AllByRecursion (λ m. m < t) (range_with_len (first + 1) n)) next (range_below (first + 1) n))

pub one_order_of : (gates : List (Gate ℕ)) (order other : List ℕ) → IsOrder gates order → IsOrder gates other → order ≡ other
one_order_of gates order other o p =
    same_ascending (ComesBefore o.level) (never_both o.level) order other (pairs_ascend (ComesBefore o.level) order o.ascending)
    (ascend_as (ComesBefore p.level) (ComesBefore o.level) (λ h. p.level h ≡ o.level h) moved other same (pairs_ascend (ComesBefore p.level) other p.ascending))
    (λ z c. Contains-permutation (range_with_len 0 (length gates)) other z p.each_once (Contains-permutation order (range_with_len 0 (length gates)) z (IsPermutation-sym (range_with_len 0 (length gates)) order o.each_once) c))
    (λ z c. Contains-permutation (range_with_len 0 (length gates)) order z o.each_once (Contains-permutation other (range_with_len 0 (length gates)) z (IsPermutation-sym (range_with_len 0 (length gates)) other p.each_once) c))
  where
    level_same : (h : ℕ) → h < length gates → p.level h ≡ o.level h
    level_same h small = let there = get_some gates h small in one_level gates there.0 (p.level h) (o.level h) (p.levels h there.0 there.1) (o.levels h there.0 there.1)

    same_range : (xs : List ℕ) → AllByRecursion (λ m. m < 0 + length gates) xs → AllByRecursion (λ h. p.level h ≡ o.level h) xs
    same_range [] all = tt
    same_range (x ∷ xs) all = (level_same x (omega (arith, all.0)), same_range xs all.1)

    same : AllByRecursion (λ h. p.level h ≡ o.level h) other
    same =
        recursion_from_All (λ h. p.level h ≡ o.level h) other
        (All-permutation (λ h. p.level h ≡ o.level h) (range_with_len 0 (length gates)) other p.each_once
        (All-from_recursion (λ h. p.level h ≡ o.level h) (range_with_len 0 (length gates)) (same_range (range_with_len 0 (length gates)) (range_below 0 (length gates)))))

    moved : (x y : ℕ) → p.level x ≡ o.level x → p.level y ≡ o.level y → ComesBefore p.level x y → ComesBefore o.level x y
    moved x y a b (inl less) = inl (omega (arith, a, b, less))
    moved x y a b (inr equal) = inr (sym a ∙ (equal.0 ∙ b), equal.1)
