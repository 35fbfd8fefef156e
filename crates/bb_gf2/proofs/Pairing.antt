-- code bits of combinations, and the bits of masks
use Rattle.std.proofs.Common.{◌≡◌, ℕ, ◌+◌, ◌*◌, ◌/◌, ◌%◌, ◌^◌, ◌<◌, ◌==◌, zero, suc, List, [], ◌∷◌, length, get_or, Bool, true, false, ◌&&◌, refl, sym, ap, ◌∙◌, subst, arith}
use Rattle.std.specs.Int.{bit_at}
use Rattle.std.proofs.lemmas.Bool.Decides.{nat_tests}
use Rattle.std.proofs.lemmas.Bool.{ne_eqb}
use Rattle.std.proofs.lemmas.List.{get_or-map, length-map}
use Rattle.std.proofs.lemmas.Nat.Bits.{bit_at_lowest, bit_at-suc}
use Rattle.std.proofs.Math.Nat.{pow-suc}
use Rattle.bb_base.specs.Booleans.{xor}
use Rattle.bb_base.specs.Bits.{from_bits}
use Rattle.bb_base.specs.Parity.{code_bit, code_word}
use Rattle.bb_base.specs.Span.{combined}
use Rattle.bb_base.specs.Dual.{IsDual, AreDuals, AreLeastDuals}
use Rattle.bb_gf2.proofs.Codes.{low_bit, code_xor, code_comm, code_zero}
use Rattle.bb_gf2.proofs.Combine.{where_true, combined_cons}
use Rattle.bb_gf2.proofs.Low.{Keeps, keeps_xor}

code_where : (b : Bool) (r x : ℕ) → code_bit (where_true b r) x ≡ (b && code_bit r x)
code_where true r x = refl
code_where false r x = code_zero x

code_cons : (m r : ℕ) (rs : List ℕ) (x : ℕ) → code_bit (combined m (r ∷ rs)) x ≡ xor (low_bit m && code_bit r x) (code_bit (combined (m / 2) rs) x)
code_cons m r rs x =
    ap (λ c. code_bit c x) (combined_cons m r rs) ∙ code_xor (where_true (low_bit m) r) (combined (m / 2) rs) x
    ∙ ap (λ b. xor b (code_bit (combined (m / 2) rs) x)) (code_where (low_bit m) r x)

pub and_false : (b : Bool) → (b && false) ≡ false
and_false true = refl
and_false false = refl

-- each row misses the vector
abbrev pub AllMiss : List ℕ → ℕ → Type 0
AllMiss rows x = (other : ℕ) → other < length rows → code_bit (get_or rows other 0) x ≡ false

-- what each row misses, each combination misses
pub none_coded : (rows : List ℕ) (m x : ℕ) → AllMiss rows x → code_bit (combined m rows) x ≡ false
none_coded [] m x h = code_zero x
none_coded (r ∷ rs) m x h =
    code_cons m r rs x ∙ (λ i. xor (low_bit m && h 0 (omega arith) i) (none_coded rs (m / 2) x (λ j lt. h (suc j) (omega (arith, lt))) i))
    ∙ ap (λ b. xor b false) (and_false (low_bit m))

-- the code bit of a combination with a row's dual says whether the row is chosen
pub dual_coded : (rows : List ℕ) (place d m : ℕ) → IsDual rows place d → place < length rows → code_bit (combined m rows) d ≡ (bit_at m place == 1)
dual_coded [] place d m h lt = absurd (omega (arith, lt))
dual_coded (r ∷ rs) zero d m h lt =
    code_cons m r rs d
    ∙ (λ i. xor (low_bit m && h 0 (omega arith) i) (none_coded rs (m / 2) d (λ j l. h (suc j) (omega (arith, l)) ∙ apart j) i))
    ∙ plain (low_bit m) ∙ ap (λ n. n == 1) (sym (bit_at_lowest m))
  where
    apart : (j : ℕ) → (suc j == 0) ≡ false
    apart j = ne_eqb (suc j) 0 (λ e. omega (arith, e))

    plain : (b : Bool) → xor (b && true) false ≡ b
    plain true = refl
    plain false = refl
dual_coded (r ∷ rs) (suc place) d m h lt =
    code_cons m r rs d
    ∙ (λ i. xor (low_bit m && (h 0 (omega arith) ∙ apart) i) (dual_coded rs place d (m / 2) (λ j l. h (suc j) (omega (arith, l)) ∙ same j) (omega (arith, lt)) i))
    ∙ ap (λ b. xor b (bit_at (m / 2) place == 1)) (and_false (low_bit m)) ∙ ap (λ n. n == 1) (sym (bit_at-suc m place))
  where
    apart : (0 == suc place) ≡ false
    apart = ne_eqb 0 (suc place) (λ e. omega (arith, e))

    same : (j : ℕ) → (suc j == suc place) ≡ (j == place)
    same j = grind (arith, nat_tests)

-- ---- a mask from its bits

pub from_bits_half : (b : Bool) (bs : List Bool) → from_bits (b ∷ bs) / 2 ≡ from_bits bs
from_bits_half true bs = omega arith
from_bits_half false bs = omega arith

pub from_bits_low : (b : Bool) (bs : List Bool) → low_bit (from_bits (b ∷ bs)) ≡ b
from_bits_low true bs = let odd : (1 + 2 * from_bits bs) % 2 ≡ 1 = omega arith in ap (λ n. n == 1) odd
from_bits_low false bs = let even : (0 + 2 * from_bits bs) % 2 ≡ 0 = omega arith in ap (λ n. n == 1) even

pub from_bits_at : (bs : List Bool) (i : ℕ) → (bit_at (from_bits bs) i == 1) ≡ get_or bs i false
from_bits_at [] i = ap (λ n. n == 1) (none i)
  where
    none : (i : ℕ) → bit_at 0 i ≡ 0
    none i = omega arith
from_bits_at (b ∷ bs) zero = ap (λ n. n == 1) (bit_at_lowest (from_bits (b ∷ bs))) ∙ from_bits_low b bs
from_bits_at (b ∷ bs) (suc i) = ap (λ n. n == 1) (bit_at-suc (from_bits (b ∷ bs)) i ∙ ap (λ n. bit_at n i) (from_bits_half b bs)) ∙ from_bits_at bs i

pub from_bits_below : (bs : List Bool) → from_bits bs < 2 ^ length bs
from_bits_below [] = omega arith
from_bits_below (true ∷ bs) = let e : 2 ^ suc (length bs) ≡ 2 ^ length bs * 2 = pow-suc 2 (length bs) in omega (arith, e, from_bits_below bs)
from_bits_below (false ∷ bs) = let e : 2 ^ suc (length bs) ≡ 2 ^ length bs * 2 = pow-suc 2 (length bs) in omega (arith, e, from_bits_below bs)

pub mask_at : (rows : List ℕ) (x i : ℕ) → i < length rows → (bit_at (from_bits (code_word rows x)) i == 1) ≡ code_bit (get_or rows i 0) x
mask_at rows x i lt = from_bits_at (code_word rows x) i ∙ get_or-map (λ column. code_bit column x) rows i 0 false lt

pub mask_below : (rows : List ℕ) (x : ℕ) → from_bits (code_word rows x) < 2 ^ length rows
mask_below rows x = subst (λ n. from_bits (code_word rows x) < 2 ^ n) (length-map rows (λ column. code_bit column x)) (from_bits_below (code_word rows x))

-- what s lowers in no row, it lowers in no combination
pub keeps_combined : (s : ℕ) (rows : List ℕ) (m : ℕ) → ((i : ℕ) → i < length rows → Keeps s (get_or rows i 0)) → Keeps s (combined m rows)
keeps_combined s [] m h = omega arith
keeps_combined s (r ∷ rs) m h =
    subst (Keeps s) (sym (combined_cons m r rs))
    (keeps_xor s (where_true (low_bit m) r) (combined (m / 2) rs) (first (low_bit m)) (keeps_combined s rs (m / 2) (λ i lt. h (suc i) (omega (arith, lt)))))
  where
    first : (b : Bool) → Keeps s (where_true b r)
    first true = h 0 (omega arith)
    first false = omega arith

-- ---- duals

pub same_test : (a b : ℕ) → (a == b) ≡ (b == a)
same_test a b = grind (arith, nat_tests)

pub duals_from_least : (rows duals : List ℕ) → AreLeastDuals rows duals → AreDuals rows duals
duals_from_least rows duals h = record { one_each = h.one_each; dual = λ place lt. (h.least place lt).holds }

-- the rows are duals of their duals
pub rows_of_duals : (rows duals : List ℕ) → AreDuals rows duals → (j : ℕ) → j < length rows → IsDual duals j (get_or rows j 0)
rows_of_duals rows duals h j lt i l =
    code_comm (get_or duals i 0) (get_or rows j 0) ∙ h.dual i (subst (λ n. i < n) h.one_each l) j lt ∙ same_test j i
