-- the steps of the loops over rows
use Rattle.std.proofs.Common.{◌≡◌, ℕ, ◌+◌, ◌*◌, ◌/◌, ◌%◌, ◌^◌, ◌<◌, ◌≤◌, ◌==◌, ◌≢◌, below_more, set, suc, List, [], ◌∷◌, ◌++◌, length, get_or, take, Bool, true, false, if◌then◌else◌, refl, sym, ap, ◌∙◌, subst, arith, bit_xor, bit_or}
use Rattle.std.proofs.lemmas.Bool.{eq-eqb, ne_eqb}
use Rattle.std.specs.Int.{bit_at}
use Rattle.std.proofs.lemmas.List.{map_more, length-map, length-take-le, length-set, set-get_or, get_or-set_same, get_or-set_other}
use Rattle.std.proofs.lemmas.Nat.{one_shl, shr-shr}
use Rattle.std.proofs.Math.Nat.{pow-suc}
use lib.Bits.{xor_assoc, or_shifted_r}
use Rattle.bb_base.specs.Bits.{from_bits}
use Rattle.bb_base.specs.Parity.{code_bit, code_word}
use Rattle.bb_base.specs.Span.{combined}
use Rattle.bb_gf2.proofs.Combine.{where_true, combined_cons}
use Rattle.bb_gf2.proofs.Pairing.{from_bits_below}

-- a chosen row goes into the sum
pub sum_with : (sum left x total : ℕ) (rest : List ℕ) → left % 2 ≡ 1 → bit_xor sum (combined left (x ∷ rest)) ≡ total → bit_xor (bit_xor sum x) (combined (left / 2) rest) ≡ total
sum_with sum left x total rest odd h =
    xor_assoc sum x (combined (left / 2) rest)
    ∙ ap (λ b. bit_xor sum (bit_xor (where_true b x) (combined (left / 2) rest))) (sym (eq-eqb (left % 2) 1 odd))
    ∙ ap (bit_xor sum) (sym (combined_cons left x rest)) ∙ h

-- another doesn't
pub sum_without : (sum left x total : ℕ) (rest : List ℕ) → (left % 2 ≡ 1 → ⊥) → bit_xor sum (combined left (x ∷ rest)) ≡ total → bit_xor sum (combined (left / 2) rest) ≡ total
sum_without sum left x total rest even h =
    ap (λ b. bit_xor sum (bit_xor (where_true b x) (combined (left / 2) rest))) (sym (ne_eqb (left % 2) 1 even))
    ∙ ap (bit_xor sum) (sym (combined_cons left x rest)) ∙ h

-- the number with one bit more
pub from_bits_push : (bs : List Bool) (b : Bool) → from_bits (bs ++ b ∷ []) ≡ (if b then 1 else 0) * 2 ^ length bs + from_bits bs
from_bits_push [] true = refl
from_bits_push [] false = refl
from_bits_push (true ∷ bs) true = let double : 2 ^ suc (length bs) ≡ 2 ^ length bs * 2 = pow-suc 2 (length bs) in omega (arith, double, from_bits_push bs true)
from_bits_push (true ∷ bs) false = let double : 2 ^ suc (length bs) ≡ 2 ^ length bs * 2 = pow-suc 2 (length bs) in omega (arith, double, from_bits_push bs false)
from_bits_push (false ∷ bs) true = let double : 2 ^ suc (length bs) ≡ 2 ^ length bs * 2 = pow-suc 2 (length bs) in omega (arith, double, from_bits_push bs true)
from_bits_push (false ∷ bs) false = let double : 2 ^ suc (length bs) ≡ 2 ^ length bs * 2 = pow-suc 2 (length bs) in omega (arith, double, from_bits_push bs false)

length_word : (columns : List ℕ) (state i : ℕ) → i ≤ length columns → length (code_word (take i columns) state) ≡ i
length_word columns state i le = length-map (take i columns) (λ column. code_bit column state) ∙ length-take-le i columns le

-- the mask of one column more
mask_more : (columns : List ℕ) (state i : ℕ) (b : Bool) → i < length columns → code_bit (get_or columns i 0) state ≡ b
    → from_bits (code_word (take (i + 1) columns) state) ≡ (if b then 1 else 0) * 2 ^ i + from_bits (code_word (take i columns) state)
mask_more columns state i b lt e =
    let word = code_word (take i columns) state in
    ap from_bits (map_more (λ column. code_bit column state) columns i 0 lt ∙ ap (λ (c : Bool). word ++ c ∷ []) e)
    ∙ from_bits_push word b ∙ ap (λ n. (if b then 1 else 0) * 2 ^ n + from_bits word) (length_word columns state i (omega (arith, lt)))

pub mask_with : (columns : List ℕ) (state i mask : ℕ) → i < length columns → i < 32 → mask ≡ from_bits (code_word (take i columns) state) → code_bit (get_or columns i 0) state ≡ true
    → bit_or mask (1 * 2 ^ i % 2 ^ 32) ≡ from_bits (code_word (take (i + 1) columns) state)
mask_with columns state i mask lt small is e =
    let word = code_word (take i columns) state in
    let below : mask < 2 ^ i = subst (λ n. mask < 2 ^ n) (length_word columns state i (omega (arith, lt))) (subst (λ m. m < 2 ^ length word) (sym is) (from_bits_below word)) in
    let shifted : 1 * 2 ^ i % 2 ^ 32 ≡ 1 * 2 ^ i = (let plain : 1 * 2 ^ i ≡ 2 ^ i = omega arith in one_shl i 32 small ∙ sym plain) in
    ap (bit_or mask) shifted ∙ or_shifted_r 1 i mask below ∙ ap (λ m. 1 * 2 ^ i + m) is ∙ sym (mask_more columns state i true lt e)

pub mask_without : (columns : List ℕ) (state i mask : ℕ) → i < length columns → mask ≡ from_bits (code_word (take i columns) state) → code_bit (get_or columns i 0) state ≡ false
    → mask ≡ from_bits (code_word (take (i + 1) columns) state)
mask_without columns state i mask lt is e =
    let none : 0 * 2 ^ i + from_bits (code_word (take i columns) state) ≡ from_bits (code_word (take i columns) state) = omega arith in
    is ∙ sym none ∙ sym (mask_more columns state i false lt e)

-- ---- adding a vector where a mask says so

-- the bits that are left, the places that the loop has passed, and those that it hasn't reached
pub record Added (left mask vector index : ℕ) (old new : List ℕ) : Type 0 where
  pub long : length new ≡ length old
  pub rest : left ≡ mask / 2 ^ index
  pub done : (k : ℕ) → k < index → get_or new k 0 ≡ (if bit_at mask k == 1 then bit_xor (get_or old k 0) vector else get_or old k 0)
  pub still : (k : ℕ) → index ≤ k → get_or new k 0 ≡ get_or old k 0

half_more : (mask left index : ℕ) → left ≡ mask / 2 ^ index → left / 2 ≡ mask / 2 ^ (index + 1)
half_more mask left index e = ap (λ n. n / 2) e ∙ shr-shr mask index 1

pub added_with : (left mask vector index : ℕ) (old new : List ℕ) → index < length new → Added left mask vector index old new → left % 2 ≡ 1
    → Added (left / 2) mask vector (index + 1) old (set new index (bit_xor (get_or new index 0) vector))
added_with left mask vector index old new lt h odd =
    record {
      long = length-set new index (bit_xor (get_or new index 0) vector) ∙ h.long;
      rest = half_more mask left index h.rest;
      done = below_more _ _
          (λ k l. let ne : k ≢ index = omega (arith, l) in get_or-set_other new index k (bit_xor (get_or new index 0) vector) 0 ne ∙ h.done k l)
          (get_or-set_same new index (bit_xor (get_or new index 0) vector) 0 lt ∙ ap (λ n. bit_xor n vector) (h.still index (omega arith))
          ∙ ap (λ b. if b then bit_xor (get_or old index 0) vector else get_or old index 0) (sym (eq-eqb (bit_at mask index) 1 (ap (λ n. n % 2) (sym h.rest) ∙ odd))));
      still = λ k le. let ne : k ≢ index = omega (arith, le) in get_or-set_other new index k (bit_xor (get_or new index 0) vector) 0 ne ∙ h.still k (omega (arith, le));
    }

added_without : (left mask vector index : ℕ) (old new : List ℕ) → Added left mask vector index old new → (left % 2 ≡ 1 → ⊥) → Added (left / 2) mask vector (index + 1) old new
added_without left mask vector index old new h even =
    record {
      long = h.long;
      rest = half_more mask left index h.rest;
      done = below_more _ _ h.done
          (h.still index (omega arith)
          ∙ ap (λ b. if b then bit_xor (get_or old index 0) vector else get_or old index 0) (sym (ne_eqb (bit_at mask index) 1 (λ e. even (ap (λ n. n % 2) h.rest ∙ e)))));
      still = λ k le. h.still k (omega (arith, le));
    }

-- the loop writes back what it doesn't change
pub added_same : (left mask vector index : ℕ) (old new : List ℕ) → Added left mask vector index old new → (left % 2 ≡ 1 → ⊥) → Added (left / 2) mask vector (index + 1) old (set new index (get_or new index 0))
added_same left mask vector index old new h even =
    subst (Added (left / 2) mask vector (index + 1) old) (sym (set-get_or new index 0)) (added_without left mask vector index old new h even)
