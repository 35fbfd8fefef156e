-- Registers that take in their lines at some states.
use Rattle.std.proofs.Common.{arith, ◌≡◌, ℕ, zero, suc, ◌+◌, ◌<◌, refl, ap, ◌∙◌}
use Rattle.bb_terms.specs.Signature.{next_signature}
use Rattle.bb_sign.specs.Compactors.{taken_in}

-- one state more
pub taken_more : (cells mask : ℕ) (lines : ℕ → ℕ) (t held state line new : ℕ) → state ≡ taken_in cells mask lines t held → line ≡ lines t → new ≡ next_signature cells mask state line → new ≡ taken_in cells mask lines (t + 1) held
taken_more cells mask lines t held state line new so_far here is =
    let more : suc t ≡ t + 1 = omega arith in
    is ∙ (ap (λ q. next_signature cells mask q line) so_far ∙ ap (next_signature cells mask (taken_in cells mask lines t held)) here) ∙ ap (λ n. taken_in cells mask lines n held) more

-- the same lines
pub taken_same : (cells mask : ℕ) (f g : ℕ → ℕ) (count held : ℕ) → ((t : ℕ) → t < count → f t ≡ g t) → taken_in cells mask f count held ≡ taken_in cells mask g count held
taken_same cells mask f g zero held same = refl
taken_same cells mask f g (suc t) held same =
    ap (λ q. next_signature cells mask q (f t)) (taken_same cells mask f g t held (λ i less. same i (omega (arith, less)))) ∙ ap (next_signature cells mask (taken_in cells mask g t held)) (same t (omega arith))
