-- The rounds of a transposed block.
use Rattle.std.proofs.Common.{arith, ◌≡◌, ◌≢◌, ℕ, ◌+◌, ◌-◌, ◌*◌, ◌/◌, ◌%◌, ◌^◌, ◌<◌, ◌≤◌, ◌⊎◌, inl, inr, ltb, eqb, ◌==◌, zero, suc, Bool, true, false, not, ◌&&◌, ◌||◌, if◌then◌else◌, List, length, set, get_or, get_or-set_same, get_or-set_other, bit_and, bit_or, refl, sym, ap, subst, ◌∙◌}
use Rattle.std.specs.Int.{bit_at}
use Rattle.std.proofs.lemmas.Bool.{agree_below, agree_below_at, and_parts, and_right, cases_lt, ltb-true, eqb-true}
use Rattle.std.proofs.lemmas.Bool.Decides.{nat_tests}
use Rattle.std.proofs.lemmas.Nat.{pow_pos, shr_split, shr-shr, and_mask}
use Rattle.std.proofs.lemmas.Nat.Bits.{bit_at-zero, bit_at_cat_low, bit_at_cat_high, and_pow}
use Rattle.std.proofs.Math.Nat.{add-div_right, div-eq_of_lt}
use Rattle.bb_base.specs.Bits.{from_bits}
use Rattle.bb_eqn.specs.Lanes.{lane, in_lane}
use Rattle.bb_eqn.specs.Transposed.{IsRound, IsExchanged, IsTransposed, swapped, exchanged_bit}
use Rattle.bb_eqn.proofs.LaneLemmas.{lane_and, lane_or, turned}
use Rattle.bb_eqn.proofs.SourceLemmas.{number_in_lane}

-- lanes of a remainder, and of shifted words
lane_mod : (t k n : ℕ) → t < k → lane t (n % 2 ^ k) ≡ lane t n
lane_mod t k n less = ap (λ b. b == 1) (sym (ap (λ m. bit_at m t) (sym (shr_split n k)) ∙ bit_at_cat_low (n / 2 ^ k) k (n % 2 ^ k) t less))

shl_low : (t k n : ℕ) → t < k → lane t (n * 2 ^ k) ≡ false
shl_low t k n less = let more : n * 2 ^ k ≡ n * 2 ^ k + 0 = omega arith in ap (λ b. b == 1) (ap (λ m. bit_at m t) more ∙ bit_at_cat_low n k 0 t less ∙ bit_at-zero t)

shl_high : (t k n : ℕ) → k ≤ t → lane t (n * 2 ^ k) ≡ lane (t - k) n
shl_high t k n past = let more : n * 2 ^ k ≡ n * 2 ^ k + 0 = omega arith in ap (λ b. b == 1) (ap (λ m. bit_at m t) more ∙ bit_at_cat_high n k 0 t (pow_pos k) past)

lane_shr : (t k n : ℕ) → lane t (n / 2 ^ k) ≡ lane (t + k) n
lane_shr t k n = let turn : k + t ≡ t + k = omega arith in ap (λ m. m % 2 == 1) (shr-shr n k t ∙ ap (λ e. n / 2 ^ e) turn)

-- the part before a part
part_before : (step c : ℕ) → 0 < step → step ≤ c → c / step ≡ (c - step) / step + 1
part_before step c some past = let whole : c ≡ c - step + step = omega (arith, past) in ap (λ n. n / step) whole ∙ add-div_right (c - step) some

odd_past : (step c : ℕ) → c / step % 2 ≡ 1 → step ≤ c
odd_past step c odd = by (cases_lt c step)
  where
    by : (c < step) ⊎ (step ≤ c) → step ≤ c
    by (inl less) = let none : c / step ≡ 0 = div-eq_of_lt less in absurd (omega (arith, none, odd))
    by (inr past) = past

-- a row with even parts of its own
pub lower_bit : (step mask word other c : ℕ) → IsRound step mask → c < 64 → lane c (bit_or (bit_and word mask) (bit_and other mask * 2 ^ step % 2 ^ 64)) ≡ (if c / step % 2 == 0 then lane c word else lane (c - step) other)
lower_bit step mask word other c round less =
    lane_or c (bit_and word mask) (bit_and other mask * 2 ^ step % 2 ^ 64)
    ∙ (λ i. (lane_and c word mask ∙ ap (λ b. lane c word && b) (round.even c less)) i || lane_mod c 64 (bit_and other mask * 2 ^ step) less i)
    ∙ by (c / step % 2) refl (omega arith)
  where
    even_before : c / step % 2 ≡ 0 → lane c (bit_and other mask * 2 ^ step) ≡ false
    even_before none = cases (cases_lt c step)
      where
        cases : (c < step) ⊎ (step ≤ c) → lane c (bit_and other mask * 2 ^ step) ≡ false
        cases (inl near) = shl_low c step (bit_and other mask) near
        cases (inr past) =
            let back = part_before step c round.some past in
            let odd : (c - step) / step % 2 ≡ 1 = omega (arith, back, none) in
            shl_high c step (bit_and other mask) past ∙ lane_and (c - step) other mask
            ∙ and_right (lane (c - step) other) (lane (c - step) mask) (round.even (c - step) (omega (arith, less)) ∙ ap (λ m. m == 0) odd)

    odd_before : c / step % 2 ≡ 1 → lane c (bit_and other mask * 2 ^ step) ≡ lane (c - step) other
    odd_before one =
        let past = odd_past step c one in
        let back = part_before step c round.some past in
        let even : (c - step) / step % 2 ≡ 0 = omega (arith, back, one) in
        shl_high c step (bit_and other mask) past ∙ lane_and (c - step) other mask
        ∙ ap (λ b. lane (c - step) other && b) (round.even (c - step) (omega (arith, less)) ∙ ap (λ m. m == 0) even) ∙ and_true (lane (c - step) other)
      where
        and_true : (b : Bool) → (b && true) ≡ b
        and_true true = refl
        and_true false = refl

    or_first : (b x : Bool) → x ≡ false → ((b && true) || x) ≡ b
    or_first true x e = refl
    or_first false x e = e

    or_second : (b x y : Bool) → x ≡ y → ((b && false) || x) ≡ y
    or_second true x y e = e
    or_second false x y e = e

    by : (m : ℕ) → c / step % 2 ≡ m → m < 2 → ((lane c word && (m == 0)) || lane c (bit_and other mask * 2 ^ step)) ≡ (if m == 0 then lane c word else lane (c - step) other)
    by zero e h = or_first (lane c word) (lane c (bit_and other mask * 2 ^ step)) (even_before e)
    by (suc zero) e h = or_second (lane c word) (lane c (bit_and other mask * 2 ^ step)) (lane (c - step) other) (odd_before e)
    by (suc (suc m)) e h = absurd (omega (arith, h))

-- a row with odd parts of its own
pub upper_bit : (step mask word other c : ℕ) → IsRound step mask → mask < 2 ^ 64 → c < 64
    → lane c (bit_or (bit_and word (18446744073709551615 - mask)) (bit_and (other / 2 ^ step) mask)) ≡ (if c / step % 2 == 0 then lane (c + step) other else lane c word)
upper_bit step mask word other c round fits less =
    lane_or c (bit_and word (18446744073709551615 - mask)) (bit_and (other / 2 ^ step) mask)
    ∙ (λ i. (lane_and c word (18446744073709551615 - mask) ∙ ap (λ b. lane c word && b) (turned c mask (c / step % 2 == 0) fits less (round.even c less))) i
    || (lane_and c (other / 2 ^ step) mask ∙ (λ j. lane_shr c step other j && round.even c less j)) i)
    ∙ by (c / step % 2) (omega arith)
  where
    second : (b x : Bool) → ((b && false) || (x && true)) ≡ x
    second true true = refl
    second true false = refl
    second false true = refl
    second false false = refl

    first : (b x : Bool) → ((b && true) || (x && false)) ≡ b
    first true x = refl
    first false true = refl
    first false false = refl

    by : (m : ℕ) → m < 2 → ((lane c word && not (m == 0)) || (lane (c + step) other && (m == 0))) ≡ (if m == 0 then lane (c + step) other else lane c word)
    by zero h = second (lane c word) (lane (c + step) other)
    by (suc zero) h = first (lane c word) (lane (c + step) other)
    by (suc (suc m)) h = absurd (omega (arith, h))

-- the test of a row's part
pub even_from : (step mask row : ℕ) → IsRound step mask → bit_and row step ≡ 0 → row / step % 2 ≡ 0
even_from step mask row round none = by (row / step % 2) (omega arith) (sym (round.test row) ∙ none)
  where
    by : (r : ℕ) → r < 2 → r * step ≡ 0 → r ≡ 0
    by zero h e = refl
    by (suc zero) h e = let some = round.some in absurd (omega (arith, e, some))
    by (suc (suc r)) h e = absurd (omega (arith, h))

pub odd_from : (step mask row : ℕ) → IsRound step mask → bit_and row step ≢ 0 → row / step % 2 ≡ 1
odd_from step mask row round some = by (row / step % 2) (omega arith) (round.test row)
  where
    by : (r : ℕ) → r < 2 → bit_and row step ≡ r * step → r ≡ 1
    by zero h e = let none : 0 * step ≡ 0 = omega arith in absurd (some (e ∙ none))
    by (suc zero) h e = refl
    by (suc (suc r)) h e = absurd (omega (arith, h))

pub even_row : (step row c : ℕ) (block : List ℕ) → row / step % 2 ≡ 0 → (if c / step % 2 == 0 then lane c (get_or block row 0) else lane (c - step) (get_or block (row + step) 0)) ≡ exchanged_bit step block row c
even_row step row c block even = by (c / step % 2) (omega arith) ∙ ap (λ r. lane (c - c / step % 2 * step + r * step) (get_or block (row - r * step + c / step % 2 * step) 0)) (sym even)
  where
    by : (m : ℕ) → m < 2 → (if m == 0 then lane c (get_or block row 0) else lane (c - step) (get_or block (row + step) 0)) ≡ lane (c - m * step + 0 * step) (get_or block (row - 0 * step + m * step) 0)
    by zero h =
        let a : c ≡ c - 0 * step + 0 * step = omega arith in
        let b : row ≡ row - 0 * step + 0 * step = omega arith in
        λ i. lane (a i) (get_or block (b i) 0)
    by (suc zero) h =
        let a : c - step ≡ c - 1 * step + 0 * step = omega arith in
        let b : row + step ≡ row - 0 * step + 1 * step = omega arith in
        λ i. lane (a i) (get_or block (b i) 0)
    by (suc (suc m)) h = absurd (omega (arith, h))

pub odd_row : (step row c : ℕ) (block : List ℕ) → row / step % 2 ≡ 1 → (if c / step % 2 == 0 then lane (c + step) (get_or block (row - step) 0) else lane c (get_or block row 0)) ≡ exchanged_bit step block row c
odd_row step row c block odd = by (c / step % 2) refl (omega arith) ∙ ap (λ r. lane (c - c / step % 2 * step + r * step) (get_or block (row - r * step + c / step % 2 * step) 0)) (sym odd)
  where
    by : (m : ℕ) → c / step % 2 ≡ m → m < 2 → (if m == 0 then lane (c + step) (get_or block (row - step) 0) else lane c (get_or block row 0)) ≡ lane (c - m * step + 1 * step) (get_or block (row - 1 * step + m * step) 0)
    by zero e h =
        let a : c + step ≡ c - 0 * step + 1 * step = omega arith in
        let b : row - step ≡ row - 1 * step + 0 * step = omega arith in
        λ i. lane (a i) (get_or block (b i) 0)
    by (suc zero) e h =
        let past = odd_past step c e in
        let inside = odd_past step row odd in
        let a : c ≡ c - 1 * step + 1 * step = omega (arith, past) in
        let b : row ≡ row - 1 * step + 1 * step = omega (arith, inside) in
        λ i. lane (a i) (get_or block (b i) 0)
    by (suc (suc m)) e h = absurd (omega (arith, h))

-- one row more of a round
pub row_more : (f : ℕ → ℕ → Bool) (rows : List ℕ) (place word : ℕ) → place < length rows → ((c : ℕ) → c < 64 → lane c word ≡ f place c) → ((row c : ℕ) → row < place → c < 64 → lane c (get_or rows row 0) ≡ f row c)
    → (row c : ℕ) → row < place + 1 → c < 64 → lane c (get_or (set rows place word) row 0) ≡ f row c
row_more f rows place word less here before row c near h = by (row == place) refl
  where
    by : (b : Bool) → (row == place) ≡ b → lane c (get_or (set rows place word) row 0) ≡ f row c
    by true e =
        let same : row ≡ place = grind (arith, nat_tests, e) in
        subst (λ n. lane c (get_or (set rows place word) n 0) ≡ f n c) (sym same) (ap (lane c) (get_or-set_same rows place word 0 less) ∙ here c h)
    by false e =
        let differs : row ≢ place = (λ s. grind (arith, nat_tests, e, s)) in
        ap (lane c) (get_or-set_other rows place row word 0 differs) ∙ before row c (omega (arith, near, differs)) h

-- the four rounds
pub round_8 : IsRound 8 71777214294589695
round_8 = record { some = omega arith; few = omega arith; test = λ row. and_pow row 3; inside = λ row less even. omega (arith, less, even); even = λ c less. agree_below_at (λ n. lane n 71777214294589695) (λ n. n / 8 % 2 == 0) 64 c refl less }

pub round_4 : IsRound 4 1085102592571150095
round_4 = record { some = omega arith; few = omega arith; test = λ row. and_pow row 2; inside = λ row less even. omega (arith, less, even); even = λ c less. agree_below_at (λ n. lane n 1085102592571150095) (λ n. n / 4 % 2 == 0) 64 c refl less }

pub round_2 : IsRound 2 3689348814741910323
round_2 = record { some = omega arith; few = omega arith; test = λ row. and_pow row 1; inside = λ row less even. omega (arith, less, even); even = λ c less. agree_below_at (λ n. lane n 3689348814741910323) (λ n. n / 2 % 2 == 0) 64 c refl less }

pub round_1 : IsRound 1 6148914691236517205
round_1 = record { some = omega arith; few = omega arith; test = λ row. and_pow row 0; inside = λ row less even. omega (arith, less, even); even = λ c less. agree_below_at (λ n. lane n 6148914691236517205) (λ n. n / 1 % 2 == 0) 64 c refl less }

-- the lines in a lane of transposed words
pub lines_there : (words block : List ℕ) (place : ℕ) → place < 64 → length words ≡ 16 → IsTransposed words block → bit_and (get_or block (place % 16) 0 / 2 ^ (place / 16 * 16)) 65535 ≡ from_bits (in_lane place words)
lines_there words block place less long transposed =
    and_mask (get_or block (place % 16) 0 / 2 ^ (place / 16 * 16)) 16
    ∙ number_in_lane 16 place (get_or block (place % 16) 0 / 2 ^ (place / 16 * 16) % 2 ^ 16) words long (omega arith) each
  where
    each : (i : ℕ) → i < 16 → lane place (get_or words i 0) ≡ lane i (get_or block (place % 16) 0 / 2 ^ (place / 16 * 16) % 2 ^ 16)
    each i near =
        let whole : place ≡ 16 * (place / 16) + place % 16 = omega arith in
        let turn : 16 * (place / 16) + i ≡ i + place / 16 * 16 = omega arith in
        ap (λ t. lane t (get_or words i 0)) whole ∙ sym (transposed i (place % 16) (place / 16) near (omega arith) (omega (arith, less)))
        ∙ ap (λ t. lane t (get_or block (place % 16) 0)) turn ∙ sym (lane_shr i (place / 16 * 16) (get_or block (place % 16) 0))
        ∙ sym (lane_mod i 16 (get_or block (place % 16) 0 / 2 ^ (place / 16 * 16)) near)

-- where a bit comes from through the rounds, checked for all rows and lanes
abbrev from_8 : ℕ → ℕ → ℕ → ℕ → Bool
from_8 row c b t = (ltb b 16 && ltb t 64) && (eqb (swapped 8 b t) (c % 16) && eqb (swapped 8 t b) (c / 16 * 16 + row))

abbrev from_4 : ℕ → ℕ → ℕ → ℕ → Bool
from_4 row c b t = (ltb b 16 && ltb t 64) && from_8 row c (swapped 4 b t) (swapped 4 t b)

abbrev from_2 : ℕ → ℕ → ℕ → ℕ → Bool
from_2 row c b t = (ltb b 16 && ltb t 64) && from_4 row c (swapped 2 b t) (swapped 2 t b)

abbrev comes_back : ℕ → ℕ → Bool
comes_back row c = from_2 row c (swapped 1 row c) (swapped 1 c row)

comes_back_at : (row c : ℕ) → row < 16 → c < 64 → comes_back row c ≡ true
comes_back_at row c near less =
    agree_below_at (comes_back row) (λ t. true) 64 c (agree_below_at (λ b. agree_below (comes_back b) (λ t. true) 64) (λ b. true) 16 row refl near) less

pub four_rounds : (o p q r s : List ℕ) → IsExchanged 8 o p → IsExchanged 4 p q → IsExchanged 2 q r → IsExchanged 1 r s → IsTransposed o s
four_rounds o p q r s eights fours twos ones a b group small near few =
    let c : ℕ = 16 * group + a in
    let less : c < 64 = omega (arith, small, few) in
    let b1 : ℕ = swapped 1 b c in
    let c1 : ℕ = swapped 1 c b in
    let b2 : ℕ = swapped 2 b1 c1 in
    let c2 : ℕ = swapped 2 c1 b1 in
    let b3 : ℕ = swapped 4 b2 c2 in
    let c3 : ℕ = swapped 4 c2 b2 in
    let at1 = and_parts (ltb b1 16 && ltb c1 64) (from_4 b c b2 c2) (comes_back_at b c near less) in
    let at2 = and_parts (ltb b2 16 && ltb c2 64) (from_8 b c b3 c3) at1.1 in
    let at3 = and_parts (ltb b3 16 && ltb c3 64) (eqb (swapped 8 b3 c3) (c % 16) && eqb (swapped 8 c3 b3) (c / 16 * 16 + b)) at2.1 in
    let in1 = and_parts (ltb b1 16) (ltb c1 64) at1.0 in
    let in2 = and_parts (ltb b2 16) (ltb c2 64) at2.0 in
    let in3 = and_parts (ltb b3 16) (ltb c3 64) at3.0 in
    let last = and_parts (eqb (swapped 8 b3 c3) (c % 16)) (eqb (swapped 8 c3 b3) (c / 16 * 16 + b)) at3.1 in
    let row : swapped 8 b3 c3 ≡ a = eqb-true (swapped 8 b3 c3) (c % 16) last.0 ∙ omega (arith, small) in
    let there : swapped 8 c3 b3 ≡ 16 * group + b = eqb-true (swapped 8 c3 b3) (c / 16 * 16 + b) last.1 ∙ omega (arith, small) in
    ones b c near less ∙ twos b1 c1 (ltb-true b1 16 in1.0) (ltb-true c1 64 in1.1) ∙ fours b2 c2 (ltb-true b2 16 in2.0) (ltb-true c2 64 in2.1)
    ∙ eights b3 c3 (ltb-true b3 16 in3.0) (ltb-true c3 64 in3.1) ∙ (λ i. lane (there i) (get_or o (row i) 0))
