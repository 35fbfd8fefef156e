-- a signature grows by one step a cycle
use Rattle.std.proofs.Common.{◌≡◌, zero, suc, List, [], ◌∷◌, ◌++◌, refl, sym, ap, ◌∙◌}
use Rattle.std.specs.Prelude.{fold}
use Rattle.bb_terms.specs.OnBits.{zeros}
use Rattle.bb_terms.specs.Signature.{signature_step}
use Rattle.bb_testrun.specs.SignatureSoFar.{SignaturesAgree, lines_until}

fold_last : {A B : Type 0} (f : B → A → B) (a : B) (xs : List A) (y : A) → fold f a (xs ++ y ∷ []) ≡ f (fold f a xs) y
fold_last f a [] y = refl
fold_last f a (x ∷ xs) y = fold_last f (f a x) xs y

pub signatures_agree : SignaturesAgree
signatures_agree l mask zero lines = refl
signatures_agree l mask (suc t) lines =
    ap (λ cells. signature_step mask cells (lines t)) (signatures_agree l mask t lines) ∙ sym (fold_last (signature_step mask) (zeros l) (lines_until lines t) (lines t))
