-- the signature is linear
use Rattle.std.proofs.Common.{◌≡◌, ℕ, ◌/◌, ◌%◌, ◌==◌, zero, suc, List, [], ◌∷◌, length, fold, Bool, true, false, if◌then◌else◌, refl, sym, ap, ◌∙◌, arith}
use Rattle.std.specs.List.{AllByRecursion}
use Rattle.bb_base.specs.Booleans.{xor, parity_of_bits}
use Rattle.bb_base.specs.Bits.{picked}
use Rattle.bb_base.specs.Parity.{code_of_bits}
use Rattle.bb_gf2.proofs.Xor.{swap_xor}
use Rattle.bb_terms.specs.OnBits.{shifted, zeros}
use Rattle.bb_terms.specs.Signature.{xor_each, xor_cycles, signature_step, signature}
use Rattle.bb_terms.proofs.Growth.{length_zeros, length_step}

swap_each : (a b c d : List Bool) → xor_each (xor_each a b) (xor_each c d) ≡ xor_each (xor_each a c) (xor_each b d)
swap_each [] b c d = refl
swap_each (x ∷ a) [] [] d = refl
swap_each (x ∷ a) [] (z ∷ c) d = refl
swap_each (x ∷ a) (y ∷ b) [] d = refl
swap_each (x ∷ a) (y ∷ b) (z ∷ c) [] = refl
swap_each (x ∷ a) (y ∷ b) (z ∷ c) (w ∷ d) = (λ i. swap_xor x y z w i ∷ swap_each a b c d i)

shifted_each : (f g : Bool) (a b : List Bool) → shifted (xor f g) (xor_each a b) ≡ xor_each (shifted f a) (shifted g b)
shifted_each f g [] b = refl
shifted_each f g (x ∷ a) [] = refl
shifted_each f g (x ∷ a) (y ∷ b) = ap (λ bs. xor f g ∷ bs) (shifted_each x y a b)

parity_each : (mask : ℕ) (a b : List Bool) → length a ≡ length b → code_of_bits mask (xor_each a b) ≡ xor (code_of_bits mask a) (code_of_bits mask b)
parity_each mask [] [] e = refl
parity_each mask [] (y ∷ b) e = absurd (omega (arith, e))
parity_each mask (x ∷ a) [] e = absurd (omega (arith, e))
parity_each mask (x ∷ a) (y ∷ b) e = go (mask % 2 == 1) (parity_each (mask / 2) a b (omega (arith, e)))
  where
    go : (t : Bool) → code_of_bits (mask / 2) (xor_each a b) ≡ xor (code_of_bits (mask / 2) a) (code_of_bits (mask / 2) b)
        → parity_of_bits (if t then xor x y ∷ picked (mask / 2) (xor_each a b) else picked (mask / 2) (xor_each a b))
        ≡ xor (parity_of_bits (if t then x ∷ picked (mask / 2) a else picked (mask / 2) a)) (parity_of_bits (if t then y ∷ picked (mask / 2) b else picked (mask / 2) b))
    go true h = ap (xor (xor x y)) h ∙ swap_xor x y (code_of_bits (mask / 2) a) (code_of_bits (mask / 2) b)
    go false h = h

step_linear : (mask : ℕ) (p q a b : List Bool) → length p ≡ length q → signature_step mask (xor_each p q) (xor_each a b) ≡ xor_each (signature_step mask p a) (signature_step mask q b)
step_linear mask p q a b e =
    ap (λ f. xor_each (xor_each a b) (shifted f (xor_each p q))) (parity_each mask p q e)
    ∙ ap (xor_each (xor_each a b)) (shifted_each (code_of_bits mask p) (code_of_bits mask q) p q)
    ∙ swap_each a b (shifted (code_of_bits mask p) p) (shifted (code_of_bits mask q) q)

fold_linear : (k mask : ℕ) (xs ys : List (List Bool)) (p q : List Bool) → length xs ≡ length ys → AllByRecursion (λ lines. length lines ≡ k) xs → AllByRecursion (λ lines. length lines ≡ k) ys
    → length p ≡ k → length q ≡ k → fold (signature_step mask) (xor_each p q) (xor_cycles xs ys) ≡ xor_each (fold (signature_step mask) p xs) (fold (signature_step mask) q ys)
fold_linear k mask [] [] p q e wx wy lp lq = refl
fold_linear k mask [] (y ∷ ys) p q e wx wy lp lq = absurd (omega (arith, e))
fold_linear k mask (x ∷ xs) [] p q e wx wy lp lq = absurd (omega (arith, e))
fold_linear k mask (x ∷ xs) (y ∷ ys) p q e wx wy lp lq =
    ap (λ r. fold (signature_step mask) r (xor_cycles xs ys)) (step_linear mask p q x y (lp ∙ sym lq))
    ∙ fold_linear k mask xs ys (signature_step mask p x) (signature_step mask q y) (omega (arith, e)) wx.1 wy.1 (length_step k mask p x lp wx.0) (length_step k mask q y lq wy.0)

zeros_each : (k : ℕ) → xor_each (zeros k) (zeros k) ≡ zeros k
zeros_each zero = refl
zeros_each (suc k) = ap (λ bs. false ∷ bs) (zeros_each k)

pub signature_linear : (k mask : ℕ) (xs ys : List (List Bool)) → length xs ≡ length ys → AllByRecursion (λ lines. length lines ≡ k) xs → AllByRecursion (λ lines. length lines ≡ k) ys
    → signature k mask (xor_cycles xs ys) ≡ xor_each (signature k mask xs) (signature k mask ys)
signature_linear k mask xs ys e wx wy =
    ap (λ p. fold (signature_step mask) p (xor_cycles xs ys)) (sym (zeros_each k)) ∙ fold_linear k mask xs ys (zeros k) (zeros k) e wx wy (length_zeros k) (length_zeros k)
