-- With the cuts no gate is too wide.
use Rattle.std.proofs.Common.{arith, ◌≡◌, ℕ, ◌<◌, ◌≤◌, ◌||◌, Bool, true, false, List, [], ◌∷◌, ◌++◌, length, refl, sym, subst, Contains, nat_lt, append-nil, append_assoc}
use Rattle.std.proofs.lemmas.Bool.Decides.{nat_tests}
use Rattle.std.proofs.lemmas.List.Sorted.{Contains-permutation, IsPermutation-sym}
use Rattle.bb_base.specs.Net.{Gate}
use Rattle.bb_terms.specs.Paths.{Behind, is_free}
use Rattle.bb_terms.specs.Support.{AreLeaves}
use Rattle.bb_terms.specs.Cuts.{is_stop_with, IsTooWide, AreTurns, AreCuts}
use Rattle.bb_segment.proofs.SetLemmas.{same_members}

-- after the last turn
narrow_last : (gates : List (Gate ℕ)) (order : List ℕ) (width : ℕ) (before turns : List ℕ) → AreTurns gates order width before turns → (g : Gate ℕ) → Contains gates g → IsTooWide gates (before ++ turns) width g → ⊥
narrow_last gates order width before [] h g c wide = h g c (subst (λ ns. IsTooWide gates ns width g) (append-nil before) wide)
narrow_last gates order width before (net ∷ turns) h g c wide =
    narrow_last gates order width (before ++ net ∷ []) turns h.1 g c (subst (λ ns. IsTooWide gates ns width g) (sym (append_assoc before (net ∷ []) turns)) wide)

pub short_supports : (gates : List (Gate ℕ)) (order : List ℕ) (width : ℕ) (cuts : List ℕ) (g : Gate ℕ) (leaves : List ℕ) → AreCuts gates order width cuts → Contains gates g → AreLeaves gates (is_stop_with gates cuts) (Behind g) leaves → length leaves ≤ width
short_supports gates order width cuts g leaves h c are = by (nat_lt width (length leaves)) refl
  where
    same : is_stop_with gates cuts ≡ is_stop_with gates h.turns
    same = λ i net. is_free gates net || same_members cuts h.turns (λ n k. Contains-permutation cuts h.turns n (IsPermutation-sym h.turns cuts h.same) k) (λ n k. Contains-permutation h.turns cuts n h.same k) net i

    by : (b : Bool) → nat_lt width (length leaves) ≡ b → length leaves ≤ width
    by true e =
        let over : width < length leaves = grind (arith, nat_tests, e) in
        absurd (narrow_last gates order width [] h.turns h.steps g c (record {
          count = length leaves;
          support = record { leaves = leaves; are = subst (λ s. AreLeaves gates s (Behind g) leaves) same are; count_is = refl };
          wide = over;
        }))
    by false e = grind (arith, nat_tests, e)
