-- Gates drive the cuts.
use Rattle.std.proofs.Common.{◌≡◌, ℕ, ◌||◌, Bool, true, false, List, [], ◌∷◌, ◌++◌, refl, Contains, nat_eq}
use Rattle.std.specs.List.{AllByRecursion, list_any}
use Rattle.std.proofs.lemmas.List.Sorted.{Contains-permutation, IsPermutation-sym}
use Rattle.bb_base.proofs.Contained.{of_all, to_all}
use Rattle.bb_base.specs.Net.{Gate}
use Rattle.bb_terms.specs.Paths.{is_free}
use Rattle.bb_terms.specs.Cuts.{AreTurns, AreCuts}

driven_of : (a b : Bool) → (a || b) ≡ false → a ≡ false
driven_of true b e = e
driven_of false b e = refl

turns_driven : (gates : List (Gate ℕ)) (order : List ℕ) (width : ℕ) (before turns : List ℕ) → AreTurns gates order width before turns → AllByRecursion (λ net. is_free gates net ≡ false) turns
turns_driven gates order width before [] h = tt
turns_driven gates order width before (net ∷ turns) h = (driven_of (is_free gates net) (list_any (nat_eq net) before) h.0.no_stop, turns_driven gates order width (before ++ net ∷ []) turns h.1)

-- each turn cuts a net that is no stop, so that a gate drives it
pub cuts_driven : (gates : List (Gate ℕ)) (order : List ℕ) (width : ℕ) (cuts : List ℕ) → AreCuts gates order width cuts → AllByRecursion (λ net. is_free gates net ≡ false) cuts
cuts_driven gates order width cuts h =
    to_all (λ net. is_free gates net ≡ false) cuts
    (λ net c. of_all (λ m. is_free gates m ≡ false) h.turns net (turns_driven gates order width [] h.turns h.steps) (Contains-permutation cuts h.turns net (IsPermutation-sym h.turns cuts h.same) c))
