-- Rows and bits, one behind the other.
use Rattle.std.proofs.Common.{◌≡◌, ◌≢◌, ℕ, zero, suc, ◌+◌, ◌-◌, ◌<◌, ◌/◌, ◌%◌, ◌==◌, ◌++◌, List, [], ◌∷◌, length, drop, get_or, Bool, true, false, if◌then◌else◌, refl, sym, ap, ◌∙◌, arith, append_assoc}
use Rattle.std.proofs.lemmas.Bool.Decides.{nat_tests}
use Rattle.bb_base.specs.Net.{Gate}
use Rattle.bb_base.specs.Bits.{picked}
use Rattle.bb_terms.specs.OnBits.{shifted, last_of, front}
use Rattle.bb_base.specs.declared.operator.Op.TheVariants.{And, Xor}
use Rattle.bb_terms.specs.declared.wire.Wire.{Wire}
use Rattle.bb_terms.specs.declared.wire.Wire.TheVariants.{Word, WordNext, Go, Test, Parity, Low, Feed}
use Rattle.bb_terms.specs.Controller.{gate_row, word_from, word_rows, low_row, feed_rows, middle_ring, ring_rows_from}

-- more items, where these and the rest were all
pub more : {X : Type 0} (old new xs rest later all : List X) → old ++ rest ≡ all → new ≡ old ++ xs → rest ≡ xs ++ later → new ++ later ≡ all
more old new xs rest later all h e split = ap (λ k. k ++ later) e ∙ append_assoc old xs later ∙ ap (λ k. old ++ k) (sym split) ∙ h

-- the bits of the complete register from one on
pub word_next : (i n : ℕ) → i < n → word_from i (n - i) ≡ Word i ∷ word_from (i + 1) (n - (i + 1))
word_next i n h =
    let count : n - i ≡ suc (n - (i + 1)) = omega (arith, h) in
    let next : suc i ≡ i + 1 = omega arith in
    ap (word_from i) count ∙ ap (λ k. Word i ∷ word_from k (n - (i + 1))) next

last_from : (x : Wire) (i k : ℕ) → last_of x (word_from i (suc k)) ≡ Word (i + k)
last_from x i zero = ap Word (omega arith)
last_from x i (suc k) = last_from (Word i) (suc i) k ∙ ap Word (omega arith)

pub last_word : (n : ℕ) → n ≢ 0 → last_of Test (word_from 0 n) ≡ Word (n - 1)
last_word zero h = absurd (h refl)
last_word (suc k) h = last_from Test 0 k ∙ ap Word (omega arith)

shifted_word : (i k : ℕ) → shifted (Word i) (word_from (suc i) k) ≡ word_from i k
shifted_word i zero = refl
shifted_word i (suc k) = ap (λ ws. Word i ∷ ws) (shifted_word (suc i) k)

pub front_word : (n m : ℕ) → m ≡ n - 1 → front (word_from 0 n) ≡ word_from 0 m
front_word zero m h = let none : m ≡ 0 = omega (arith, h) in ap (word_from 0) (sym none)
front_word (suc k) m h = shifted_word 0 k ∙ ap (word_from 0) (omega (arith, h))

-- the row of the next bit
pub word_row : (i n : ℕ) (before : Wire) → i < n → word_rows i (shifted before (word_from i (n - i))) ≡ (gate_row And (WordNext i) (Go ∷ before ∷ []) ∷ []) ++ word_rows (i + 1) (shifted (Word i) (word_from (i + 1) (n - (i + 1))))
word_row i n before h =
    let next : suc i ≡ i + 1 = omega arith in
    ap (λ ws. word_rows i (shifted before ws)) (word_next i n h)
    ∙ ap (λ k. gate_row And (WordNext i) (Go ∷ before ∷ []) ∷ word_rows k (shifted (Word i) (word_from (i + 1) (n - (i + 1))))) next

-- the rows of the next ring
pub rings_next : (s n : ℕ) → s < n → ring_rows_from s (n - s) ≡ middle_ring s ++ ring_rows_from (s + 1) (n - (s + 1))
rings_next s n h =
    let count : n - s ≡ suc (n - (s + 1)) = omega (arith, h) in
    let next : suc s ≡ s + 1 = omega arith in
    ap (ring_rows_from s) count ∙ ap (λ k. middle_ring s ++ ring_rows_from k (n - (s + 1))) next

-- a row behind others
pub more_rows : (old two new xs ys : List (Gate Wire)) → two ≡ old ++ xs → new ≡ two ++ ys → new ≡ old ++ (xs ++ ys)
more_rows old two new xs ys h k = k ∙ ap (λ z. z ++ ys) h ∙ append_assoc old xs ys

-- the picked wires from one on
pub picked_kept : {X : Type 0} (mask i : ℕ) (xs : List X) (d : X) → i < length xs → mask % 2 ≡ 1 → picked mask (drop i xs) ≡ (get_or xs i d ∷ []) ++ picked (mask / 2) (drop (i + 1) xs)
picked_kept mask i [] d h odd = absurd (omega (arith, h))
picked_kept mask zero (y ∷ xs) d h odd = ap (λ m. if m == 1 then y ∷ picked (mask / 2) xs else picked (mask / 2) xs) odd
picked_kept mask (suc i) (y ∷ xs) d h odd =
    let next : suc i + 1 ≡ suc (i + 1) = omega arith in
    picked_kept mask i xs d (omega (arith, h)) odd ∙ ap (λ k. get_or xs i d ∷ picked (mask / 2) (drop k (y ∷ xs))) (sym next)

pub picked_left : {X : Type 0} (mask i : ℕ) (xs : List X) → i < length xs → (mask % 2 ≡ 1 → ⊥) → picked mask (drop i xs) ≡ picked (mask / 2) (drop (i + 1) xs)
picked_left mask i [] h even = absurd (omega (arith, h))
picked_left mask zero (y ∷ xs) h even = by (mask % 2 == 1) refl
  where
    by : (b : Bool) → (mask % 2 == 1) ≡ b → (if b then y ∷ picked (mask / 2) xs else picked (mask / 2) xs) ≡ picked (mask / 2) xs
    by true e = absurd (even (grind (arith, nat_tests, e)))
    by false e = refl
picked_left mask (suc i) (y ∷ xs) h even =
    let next : suc i + 1 ≡ suc (i + 1) = omega arith in
    picked_left mask i xs (omega (arith, h)) even ∙ ap (λ k. picked (mask / 2) (drop k (y ∷ xs))) (sym next)

-- the rows of the feed, one behind the other
pub feed_is : (old one two new : List (Gate Wire)) (mask n m : ℕ) (tapped low : List Wire) → one ≡ old ++ gate_row Xor Parity tapped ∷ [] → two ≡ one ++ low_row low ∷ [] → new ≡ two ++ gate_row Xor Feed (Parity ∷ Low ∷ []) ∷ []
    → tapped ≡ picked mask (word_from 0 n) → m ≡ n - 1 → low ≡ word_from 0 m → new ≡ old ++ feed_rows mask (word_from 0 n)
feed_is old one two new mask n m tapped low a b c e count f =
    let low_is : low ≡ front (word_from 0 n) = f ∙ sym (front_word n m count) in
    more_rows old two new (gate_row Xor Parity tapped ∷ low_row low ∷ []) (gate_row Xor Feed (Parity ∷ Low ∷ []) ∷ []) (more_rows old one two (gate_row Xor Parity tapped ∷ []) (low_row low ∷ []) a b) c
    ∙ (λ i. old ++ gate_row Xor Parity (e i) ∷ low_row (low_is i) ∷ gate_row Xor Feed (Parity ∷ Low ∷ []) ∷ [])
