-- a signature grows by one step a cycle; states and signatures keep their length
use Rattle.std.proofs.Common.{◌≡◌, ℕ, zero, suc, List, [], ◌∷◌, ◌++◌, length, fold, Bool, refl, sym, ap, ◌∙◌, arith}
use Rattle.std.specs.List.{AllByRecursion}
use Rattle.std.proofs.lemmas.List.Sums.{fold-append}
use Rattle.bb_base.specs.Parity.{code_of_bits}
use Rattle.bb_terms.specs.OnBits.{shifted, zeros, feedback_bit, bits_after}
use Rattle.bb_terms.specs.Signature.{xor_each, signature_step, signature}

pub grows : (k mask : ℕ) (cycles : List (List Bool)) (lines : List Bool) → signature k mask (cycles ++ lines ∷ []) ≡ signature_step mask (signature k mask cycles) lines
grows k mask cycles lines = fold-append (signature_step mask) (zeros k) cycles (lines ∷ [])

pub length_shifted : {X : Type 0} (x : X) (xs : List X) → length (shifted x xs) ≡ length xs
length_shifted x [] = refl
length_shifted x (y ∷ ys) = ap suc (length_shifted y ys)

pub length_zeros : (k : ℕ) → length (zeros k) ≡ k
length_zeros zero = refl
length_zeros (suc k) = ap suc (length_zeros k)

pub length_state : (k mask t : ℕ) → length (bits_after k mask t) ≡ k
length_state k mask zero = length_zeros k
length_state k mask (suc t) = length_shifted (feedback_bit mask (bits_after k mask t)) (bits_after k mask t) ∙ length_state k mask t

pub length_each : (a b : List Bool) → length a ≡ length b → length (xor_each a b) ≡ length a
length_each [] b e = refl
length_each (x ∷ a) [] e = absurd (omega (arith, e))
length_each (x ∷ a) (y ∷ b) e = ap suc (length_each a b (omega (arith, e)))

pub length_step : (k mask : ℕ) (cells lines : List Bool) → length cells ≡ k → length lines ≡ k → length (signature_step mask cells lines) ≡ k
length_step k mask cells lines lc ll = length_each lines (shifted (code_of_bits mask cells) cells) (ll ∙ sym (length_shifted (code_of_bits mask cells) cells ∙ lc)) ∙ ll

length_fold : (k mask : ℕ) (cells : List Bool) (cycles : List (List Bool)) → length cells ≡ k → AllByRecursion (λ lines. length lines ≡ k) cycles → length (fold (signature_step mask) cells cycles) ≡ k
length_fold k mask cells [] long all = long
length_fold k mask cells (lines ∷ cycles) long all = length_fold k mask (signature_step mask cells lines) cycles (length_step k mask cells lines long all.0) all.1

pub length_signature : (k mask : ℕ) (cycles : List (List Bool)) → AllByRecursion (λ lines. length lines ≡ k) cycles → length (signature k mask cycles) ≡ k
length_signature k mask cycles all = length_fold k mask (zeros k) cycles (length_zeros k) all
