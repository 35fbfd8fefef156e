-- What operations on words do in each lane.
use Rattle.std.proofs.Common.{arith, ◌≡◌, ℕ, ◌-◌, ◌/◌, ◌^◌, ◌<◌, ◌==◌, zero, suc, max, Bool, true, false, not, ◌&&◌, ◌||◌, List, [], ◌∷◌, map, set, get_or, bit_and, bit_or, bit_xor, refl, sym, ap, ◌∙◌}
use Rattle.std.specs.Int.{bit_at, bit_not, w64}
use Rattle.std.proofs.lemmas.Nat.{and_shr, xor_shr}
use Rattle.std.proofs.lemmas.Nat.Bits.{bit_at_or, bit_at_not, bit_at-lt, bit_at-zero, bit_at_ones}
use Rattle.bb_base.specs.Booleans.{xor}
use Rattle.bb_base.specs.Operators.{op_gives}
use Rattle.bb_base.specs.declared.operator.Op.{Op}
use Rattle.bb_gf2.proofs.Codes.{low_bit, xor_low, and_low}
use Rattle.bb_eqn.specs.Values.{bits_at}
use Rattle.bb_eqn.specs.Lanes.{lane, in_lane}

pub lane_and : (t a b : ℕ) → lane t (bit_and a b) ≡ (lane t a && lane t b)
lane_and t a b = ap low_bit (and_shr a b t) ∙ and_low (a / 2 ^ t) (b / 2 ^ t)

pub lane_xor : (t a b : ℕ) → lane t (bit_xor a b) ≡ xor (lane t a) (lane t b)
lane_xor t a b = ap low_bit (xor_shr a b t) ∙ xor_low (a / 2 ^ t) (b / 2 ^ t)

max_test : (a b : ℕ) → a < 2 → b < 2 → (max a b == 1) ≡ ((a == 1) || (b == 1))
max_test zero zero g h = refl
max_test zero (suc zero) g h = refl
max_test (suc zero) zero g h = refl
max_test (suc zero) (suc zero) g h = refl
max_test (suc (suc a)) b g h = absurd (omega (arith, g))
max_test a (suc (suc b)) g h = absurd (omega (arith, h))

pub lane_or : (t a b : ℕ) → lane t (bit_or a b) ≡ (lane t a || lane t b)
lane_or t a b = ap (λ n. n == 1) (bit_at_or a b t) ∙ max_test (bit_at a t) (bit_at b t) (bit_at-lt a t) (bit_at-lt b t)

less_test : (a : ℕ) → a < 2 → (1 - a == 1) ≡ not (a == 1)
less_test zero h = refl
less_test (suc zero) h = refl
less_test (suc (suc a)) h = absurd (omega (arith, h))

pub lane_not : (t a : ℕ) → a < 2 ^ 64 → t < 64 → lane t (bit_not w64 a) ≡ not (lane t a)
lane_not t a fits less = ap (λ n. n == 1) (bit_at_not w64 a t fits less) ∙ less_test (bit_at a t) (bit_at-lt a t)

pub lane_zero : (t : ℕ) → lane t 0 ≡ false
lane_zero t = ap (λ n. n == 1) (bit_at-zero t)

pub lane_ones : (t : ℕ) → t < 64 → lane t (2 ^ 64 - 1) ≡ true
lane_ones t less = ap (λ n. n == 1) (bit_at_ones 64 t less)

-- the bit of a net in a lane is in its word
pub bit_in_lane : (t : ℕ) (values : List ℕ) (net : ℕ) → bits_at (in_lane t values) net ≡ lane t (get_or values net 0)
bit_in_lane t [] net = sym (lane_zero t)
bit_in_lane t (w ∷ values) zero = refl
bit_in_lane t (w ∷ values) (suc net) = bit_in_lane t values net

-- a word that is put in place of another
pub lane_set : (t : ℕ) (values : List ℕ) (net w : ℕ) → in_lane t (set values net w) ≡ set (in_lane t values) net (lane t w)
lane_set t [] net w = refl
lane_set t (v ∷ values) zero w = refl
lane_set t (v ∷ values) (suc net) w = ap (λ rest. lane t v ∷ rest) (lane_set t values net w)

-- a word whose bits are all turned
pub turned : (t word : ℕ) (b : Bool) → word < 2 ^ 64 → t < 64 → lane t word ≡ b → lane t (18446744073709551615 - word) ≡ not b
turned t word b fits less is = lane_not t word fits less ∙ ap not is

-- what an operator gives, at equal operators and inputs
pub same_gives : (values : List Bool) (op its : Op) (ins theirs : List ℕ) → op ≡ its → ins ≡ theirs → op_gives op (map (bits_at values) ins) ≡ op_gives its (map (bits_at values) theirs)
same_gives values op its ins theirs same all = λ i. op_gives (same i) (map (bits_at values) (all i))
