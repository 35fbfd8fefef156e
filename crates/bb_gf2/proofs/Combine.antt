-- combinations of rows: they are linear, and what one row more adds
use Rattle.std.proofs.Common.{◌≡◌, ℕ, ◌+◌, ◌*◌, ◌/◌, ◌^◌, ◌<◌, ◌==◌, suc, List, [], ◌∷◌, ◌++◌, length, Bool, true, false, if◌then◌else◌, refl, sym, ap, ◌∙◌, arith, bit_xor}
use Rattle.std.specs.Int.{bit_at}
use Rattle.std.proofs.lemmas.Nat.Bits.{bit_at_lowest, bit_at-suc}
use Rattle.std.proofs.Math.Nat.{pow-suc}
use lib.Bits.{xor_zero_r, xor_assoc, xor_self, xor_comm, block_half, block_odd}
use Rattle.bb_base.specs.Booleans.{xor}
use Rattle.bb_base.specs.Bits.{picked}
use Rattle.bb_base.specs.Span.{xor_of, combined}
use Rattle.bb_gf2.proofs.Codes.{low_bit, xor_half, xor_low}

-- a number where a test holds, else 0
abbrev pub where_true : Bool → ℕ → ℕ
where_true b x = if b then x else 0

pub combined_cons : (m r : ℕ) (rs : List ℕ) → combined m (r ∷ rs) ≡ bit_xor (where_true (low_bit m) r) (combined (m / 2) rs)
combined_cons m r rs = go (low_bit m)
  where
    go : (b : Bool) → xor_of (if b then r ∷ picked (m / 2) rs else picked (m / 2) rs) ≡ bit_xor (where_true b r) (combined (m / 2) rs)
    go true = refl
    go false = refl

pub combined_none : (rows : List ℕ) → combined 0 rows ≡ 0
combined_none [] = refl
combined_none (r ∷ rs) = combined_none rs

-- two exclusive ors at once
pub swap_xors : (a b c d : ℕ) → bit_xor (bit_xor a b) (bit_xor c d) ≡ bit_xor (bit_xor a c) (bit_xor b d)
swap_xors a b c d =
    xor_assoc a b (bit_xor c d) ∙ ap (bit_xor a) (sym (xor_assoc b c d) ∙ ap (λ e. bit_xor e d) (xor_comm b c) ∙ xor_assoc c b d)
    ∙ sym (xor_assoc a c (bit_xor b d))

-- the same twice is none
pub xor_twice : (a b : ℕ) → bit_xor a (bit_xor a b) ≡ b
xor_twice a b = sym (xor_assoc a a b) ∙ ap (λ e. bit_xor e b) (xor_self a)

pub combined_xor : (m n : ℕ) (rows : List ℕ) → combined (bit_xor m n) rows ≡ bit_xor (combined m rows) (combined n rows)
combined_xor m n [] = refl
combined_xor m n (r ∷ rs) =
    combined_cons (bit_xor m n) r rs
    ∙ (λ i. bit_xor (where_true (xor_low m n i) r) (combined (xor_half m n i) rs))
    ∙ (λ i. bit_xor (both (low_bit m) (low_bit n) i) (combined_xor (m / 2) (n / 2) rs i))
    ∙ swap_xors (where_true (low_bit m) r) (where_true (low_bit n) r) (combined (m / 2) rs) (combined (n / 2) rs)
    ∙ sym (λ i. bit_xor (combined_cons m r rs i) (combined_cons n r rs i))
  where
    both : (a b : Bool) → where_true (xor a b) r ≡ bit_xor (where_true a r) (where_true b r)
    both true true = sym (xor_self r)
    both true false = sym (xor_zero_r r)
    both false b = refl

-- bits of a mask above the rows choose nothing
pub combined_low : (rows : List ℕ) (a m : ℕ) → combined (a * 2 ^ length rows + m) rows ≡ combined m rows
combined_low [] a m = refl
combined_low (r ∷ rs) a m =
    combined_cons (a * 2 ^ suc (length rs) + m) r rs
    ∙ (λ i. bit_xor (where_true (block_odd a (length rs) m i == 1) r) (combined (block_half a (length rs) m i) rs))
    ∙ ap (bit_xor (where_true (low_bit m) r)) (combined_low rs a (m / 2))
    ∙ sym (combined_cons m r rs)

-- what one row more adds
pub combined_push : (rows : List ℕ) (m r : ℕ) → combined m (rows ++ r ∷ []) ≡ bit_xor (where_true (bit_at m (length rows) == 1) r) (combined m rows)
combined_push [] m r = combined_cons m r [] ∙ ap (λ n. bit_xor (where_true (n == 1) r) 0) (sym (bit_at_lowest m))
combined_push (q ∷ qs) m r =
    combined_cons m q (qs ++ r ∷ []) ∙ ap (bit_xor first) (combined_push qs (m / 2) r) ∙ turn first last (combined (m / 2) qs)
    ∙ sym (λ i. bit_xor (where_true (bit_at-suc m (length qs) i == 1) r) (combined_cons m q qs i))
  where
    first : ℕ
    first = where_true (low_bit m) q

    last : ℕ
    last = where_true (bit_at (m / 2) (length qs) == 1) r

    turn : (a b c : ℕ) → bit_xor a (bit_xor b c) ≡ bit_xor b (bit_xor a c)
    turn a b c = sym (xor_assoc a b c) ∙ ap (λ e. bit_xor e c) (xor_comm a b) ∙ xor_assoc b a c

-- a mask of the front rows chooses none of the others
pub combined_front : (front back : List ℕ) (m : ℕ) → m < 2 ^ length front → combined m (front ++ back) ≡ combined m front
combined_front [] back m lt = let none : m ≡ 0 = omega (arith, lt) in ap (λ n. combined n back) none ∙ combined_none back
combined_front (r ∷ rs) back m lt =
    let double : 2 ^ suc (length rs) ≡ 2 ^ length rs * 2 = pow-suc 2 (length rs) in
    combined_cons m r (rs ++ back) ∙ ap (bit_xor (where_true (low_bit m) r)) (combined_front rs back (m / 2) (omega (arith, lt, double))) ∙ sym (combined_cons m r rs)
