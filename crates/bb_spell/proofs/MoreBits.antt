-- The further bits of a line, one step at a time.
use Rattle.std.proofs.Common.{◌≡◌, ℕ, ◌≤◌, ◌<◌, zero, suc, List, [], ◌∷◌, ◌++◌, length, drop, codes, Option, Some, None, Bool, true, false, refl, sym, ap, ◌∙◌, arith, append_assoc, length-drop}
use Rattle.std.proofs.lemmas.List.{append-nil}
use Rattle.bb_base.specs.Variables.{Bit}
use Rattle.bb_spell.specs.Front.{◌>>=◌, begins_with, front_bit, Fails}
use Rattle.bb_spell.specs.Lines.{with_front, front_bits}
use Rattle.bb_spell.specs.declared.scan.LineFault.{LineFault}
use Rattle.bb_spell.specs.declared.scan.LineFault.TheVariants.{NotCanonical, NoMemory}
use Rattle.bb_spell.proofs.Shorter.{bit_le}

with_two : (xs ys : List Bit) (r : Option (List Bit × List ℕ)) → with_front xs (with_front ys r) ≡ with_front (xs ++ ys) r
with_two xs ys None = refl
with_two xs ys (Some r) = ap (λ z. Some (z, r.1)) (sym (append_assoc xs ys r.0))

-- bytes that begin with a comma and a space are two at least
pub begins_long : (bytes : List ℕ) → begins_with (codes ", ") bytes ≡ true → 2 ≤ length bytes
begins_long [] h = cc
begins_long (x ∷ []) h = grind arith
begins_long (x ∷ y ∷ ys) h = omega arith

pub bits_end : (most : ℕ) (bytes : List ℕ) → begins_with (codes ", ") bytes ≡ false → front_bits most bytes ≡ Some ([], bytes)
unfolding front_bits
bits_end zero bytes h = refl
bits_end (suc most) bytes h = rw h refl

-- one bit at least
pub bits_one : (most : ℕ) (bytes : List ℕ) → begins_with (codes ", ") bytes ≡ true → front_bits (suc most) bytes ≡ (front_bit (drop 2 bytes) >>= (λ b. with_front (b.0 ∷ []) (front_bits most b.1)))
unfolding front_bits
bits_one most bytes h = rw h refl

pub bind_same : {A B : Type 0} (r : Option A) (f g : A → Option B) → ((x : A) → r ≡ Some x → f x ≡ g x) → (r >>= f) ≡ (r >>= g)
bind_same None f g h = refl
bind_same (Some x) f g h = h x refl

-- the same is read whatever number is allowed, where it is enough
pub bits_same : (n m : ℕ) (bytes : List ℕ) → length bytes ≤ n → length bytes ≤ m → front_bits n bytes ≡ front_bits m bytes
bits_same zero zero bytes h k = refl
bits_same zero (suc m) [] h k = bits_end zero [] refl ∙ sym (bits_end (suc m) [] refl)
bits_same zero (suc m) (x ∷ xs) h k = absurd (omega arith)
bits_same (suc n) zero [] h k = bits_end (suc n) [] refl ∙ sym (bits_end zero [] refl)
bits_same (suc n) zero (x ∷ xs) h k = absurd (omega arith)
bits_same (suc n) (suc m) bytes h k = go (begins_with (codes ", ") bytes) refl (λ rest. bits_same n m rest)
  where
    go : (b : Bool) → begins_with (codes ", ") bytes ≡ b → ((rest : List ℕ) → length rest ≤ n → length rest ≤ m → front_bits n rest ≡ front_bits m rest) → front_bits (suc n) bytes ≡ front_bits (suc m) bytes
    go false e rec = bits_end (suc n) bytes e ∙ sym (bits_end (suc m) bytes e)
    go true e rec =
        let long = begins_long bytes e in
        let two = length-drop 2 bytes in
        bits_one n bytes e ∙ bind_same (front_bit (drop 2 bytes)) _ _ (λ x at.
        let short = bit_le (drop 2 bytes) x.0 x.1 at in
        ap (with_front (x.0 ∷ [])) (rec x.1 (omega arith) (omega arith))) ∙ sym (bits_one m bytes e)

-- another bit
pub bits_step : (bytes : List ℕ) (b : Bit) (rest : List ℕ) → begins_with (codes ", ") bytes ≡ true → front_bit (drop 2 bytes) ≡ Some (b, rest) → front_bits (length bytes) bytes ≡ with_front (b ∷ []) (front_bits (length rest) rest)
bits_step [] b rest s t = cc
bits_step (x ∷ xs) b rest s t =
    let long = begins_long (x ∷ xs) s in
    let short = bit_le (drop 2 (x ∷ xs)) b rest t in
    let two = length-drop 2 (x ∷ xs) in
    bits_one (length xs) (x ∷ xs) s ∙ ap (λ r. r >>= (λ b. with_front (b.0 ∷ []) (front_bits (length xs) b.1))) t ∙ ap (with_front (b ∷ [])) (bits_same (length xs) (length rest) rest (omega arith) (omega arith))

-- no bit where one has to stand
pub bits_none : (bytes : List ℕ) → begins_with (codes ", ") bytes ≡ true → front_bit (drop 2 bytes) ≡ None → front_bits (length bytes) bytes ≡ None
bits_none [] s t = cc
bits_none (x ∷ xs) s t = bits_one (length xs) (x ∷ xs) s ∙ ap (λ r. r >>= (λ b. with_front (b.0 ∷ []) (front_bits (length xs) b.1))) t

-- what follows is shorter
pub bits_shorter : (bytes from : List ℕ) (b : Bit) (rest : List ℕ) → begins_with (codes ", ") bytes ≡ true → from ≡ drop 2 bytes → front_bit from ≡ Some (b, rest) → length rest < length bytes
bits_shorter bytes from b rest s f t =
    let long = begins_long bytes s in
    let short = bit_le from b rest t in
    omega (arith, ap length f, length-drop 2 bytes)

-- the bits so far and those to come stay the same
pub bits_kept : (bits new : List Bit) (bytes from tail : List ℕ) (b : Bit) (all : Option (List Bit × List ℕ)) → begins_with (codes ", ") bytes ≡ true → from ≡ drop 2 bytes → front_bit from ≡ Some (b, tail) → new ≡ bits ++ b ∷ []
    → with_front bits (front_bits (length bytes) bytes) ≡ all → with_front new (front_bits (length tail) tail) ≡ all
bits_kept bits new bytes from tail b all s f t n h =
    ap (λ z. with_front z (front_bits (length tail) tail)) n ∙ sym (with_two bits (b ∷ []) (front_bits (length tail) tail)) ∙ ap (with_front bits) (sym (bits_step bytes b tail s (ap front_bit (sym f) ∙ t))) ∙ h

-- the end of the bits
pub bits_last : (bits : List Bit) (bytes : List ℕ) (all : Option (List Bit × List ℕ)) → begins_with (codes ", ") bytes ≡ false → with_front bits (front_bits (length bytes) bytes) ≡ all → all ≡ Some (bits, bytes)
bits_last bits bytes all s h = sym h ∙ ap (with_front bits) (bits_end (length bytes) bytes s) ∙ ap (λ z. Some (z, bytes)) (append-nil bits)

-- a fault in the middle
pub bits_fail : (e : LineFault) (bits : List Bit) (bytes from : List ℕ) (all : Option (List Bit × List ℕ)) → begins_with (codes ", ") bytes ≡ true → from ≡ drop 2 bytes → Fails e (front_bit from) → with_front bits (front_bits (length bytes) bytes) ≡ all → Fails e all
bits_fail NoMemory bits bytes from all s f t h = tt
bits_fail NotCanonical bits bytes from all s f t h = sym h ∙ ap (with_front bits) (bits_none bytes s (ap front_bit (sym f) ∙ t))
