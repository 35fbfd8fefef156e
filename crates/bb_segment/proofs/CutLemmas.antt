-- A netlist has one choice of cuts.
use Rattle.std.proofs.Common.{◌≡◌, ◌⊎◌, inl, inr, ℕ, zero, suc, ◌<◌, ◌≤◌, List, [], ◌∷◌, ◌++◌, length, refl, sym, ap, subst, ◌∙◌, arith, Contains, slice_get, Some}
use Rattle.std.specs.List.Sorted.{IsPermutation}
use Rattle.std.proofs.lemmas.List.Sorted.{Contains-permutation, IsPermutation-sym}
use Rattle.bb_base.specs.Net.{Gate}
use Rattle.bb_base.proofs.Contained.{contains_at}
use Rattle.bb_terms.specs.Paths.{Start, AtNet}
use Rattle.bb_terms.specs.Cuts.{is_stop_with, HasSupport, IsCutRather, IsNextCut, AreTurns, AreCuts}
use Rattle.bb_segment.proofs.SupportLemmas.{one_support, ascending_same}

module _ (gates : List (Gate ℕ)) (order : List ℕ) (width : ℕ) where
  one_count : (cuts : List ℕ) (start : Start ℕ) (a b : ℕ) → HasSupport gates cuts start a → HasSupport gates cuts start b → a ≡ b
  one_count cuts start a b h k = h.count_is ∙ ap length (one_support gates (is_stop_with gates cuts) start h.leaves k.leaves h.are k.are) ∙ sym k.count_is

  low_first : (cuts : List ℕ) (a b : ℕ) → IsCutRather gates cuts a b → IsCutRather gates cuts b a → a ≡ b
  low_first cuts a b h k =
      let one = one_count cuts (AtNet a) h.count k.other_count h.support k.other_support in
      let two = one_count cuts (AtNet b) h.other_count k.count h.other_support k.support in
      by one two h.rather k.rather
    where
      by : h.count ≡ k.other_count → h.other_count ≡ k.count → (h.other_count < h.count) ⊎ ((h.other_count ≡ h.count) × (a ≤ b)) → (k.other_count < k.count) ⊎ ((k.other_count ≡ k.count) × (b ≤ a)) → a ≡ b
      by one two (inl x) (inl y) = absurd (omega (arith, one, two, x, y))
      by one two (inl x) (inr y) = let e = y.0 in absurd (omega (arith, one, two, x, e))
      by one two (inr x) (inl y) = let e = x.0 in absurd (omega (arith, one, two, e, y))
      by one two (inr x) (inr y) = let low = x.1 in let high = y.1 in omega (arith, low, high)

  place_order : (x y : ℕ) → (x < y) ⊎ ((x ≡ y) ⊎ (y < x))
  place_order zero zero = inr (inl refl)
  place_order zero (suc y) = inl (omega arith)
  place_order (suc x) zero = inr (inr (omega arith))
  place_order (suc x) (suc y) = by (place_order x y)
    where
      by : (x < y) ⊎ ((x ≡ y) ⊎ (y < x)) → (suc x < suc y) ⊎ ((suc x ≡ suc y) ⊎ (suc y < suc x))
      by (inl less) = inl (omega (arith, less))
      by (inr (inl same)) = inr (inl (ap suc same))
      by (inr (inr more)) = inr (inr (omega (arith, more)))

  one_place : (cuts : List ℕ) (a b : ℕ) → (h : IsNextCut gates order width cuts a) → (k : IsNextCut gates order width cuts b) → h.place ≡ k.place
  one_place cuts a b h k = by (place_order h.place k.place)
    where
      by : (h.place < k.place) ⊎ ((h.place ≡ k.place) ⊎ (k.place < h.place)) → h.place ≡ k.place
      by (inl less) = absurd (k.first h.place h.gate less h.stands h.wide)
      by (inr (inl same)) = same
      by (inr (inr more)) = absurd (h.first k.place k.gate more k.stands k.wide)

  some_same : {X : Type 0} (x y : X) → Some x ≡ Some y → x ≡ y
  some_same x y e = cc e

  one_next : (cuts : List ℕ) (a b : ℕ) → IsNextCut gates order width cuts a → IsNextCut gates order width cuts b → a ≡ b
  one_next cuts a b h k =
      let place = one_place cuts a b h k in
      let number : h.stands.number ≡ k.stands.number = some_same h.stands.number k.stands.number (sym h.stands.ordered ∙ ap (slice_get order) place ∙ k.stands.ordered) in
      let gate : h.gate ≡ k.gate = some_same h.gate k.gate (sym h.stands.stands ∙ ap (slice_get gates) number ∙ k.stands.stands) in
      low_first cuts a b (h.most b (subst (λ (g : Gate ℕ). Contains g.ins b) (sym gate) k.input) k.no_stop) (k.most a (subst (λ (g : Gate ℕ). Contains g.ins a) gate h.input) h.no_stop)

  one_list : (before xs ys : List ℕ) → AreTurns gates order width before xs → AreTurns gates order width before ys → xs ≡ ys
  one_list before [] [] h k = refl
  one_list before [] (y ∷ ys) h k = absurd (h k.0.gate (contains_at gates k.0.stands.number k.0.gate k.0.stands.stands) k.0.wide)
  one_list before (x ∷ xs) [] h k = absurd (k h.0.gate (contains_at gates h.0.stands.number h.0.gate h.0.stands.stands) h.0.wide)
  one_list before (x ∷ xs) (y ∷ ys) h k =
      let same = one_next before x y h.0 k.0 in
      let rest = one_list (before ++ y ∷ []) xs ys (subst (λ z. AreTurns gates order width (before ++ z ∷ []) xs) same h.1) k.1 in
      λ i. same i ∷ rest i

  pub one_choice : (a b : List ℕ) → AreCuts gates order width a → AreCuts gates order width b → a ≡ b
  one_choice a b h k =
      let same = one_list [] h.turns k.turns h.steps k.steps in
      let across : IsPermutation h.turns b = subst (λ t. IsPermutation t b) (sym same) k.same in
      let back : IsPermutation k.turns a = subst (λ t. IsPermutation t a) same h.same in
      ascending_same a b h.ascending k.ascending
      (λ n c. Contains-permutation h.turns b n across (Contains-permutation a h.turns n (IsPermutation-sym h.turns a h.same) c))
      (λ n c. Contains-permutation k.turns a n back (Contains-permutation b k.turns n (IsPermutation-sym k.turns b k.same) c))
