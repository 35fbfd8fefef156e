-- What the tests of a number's text say.
use Rattle.std.proofs.Common.{◌≡◌, ◌≢◌, ℕ, ◌<◌, ◌^◌, List, get_or, Option, None, Result, Ok, Err, decimal, sym, ◌∙◌, ap, arith, lit<, zero, suc, IfSome}
use Rattle.std.specs.Result.{result_ok}
use Rattle.std.specs.Str.Parse.{IsNumeral, AllDigits, digits_value, ParsesUnsigned}
use Rattle.std.proofs.lemmas.Str.Parse.{IsNumeralModel, numerals_by_value, tells_digits, parse_plain, digit_at}
use Rattle.std.proofs.lemmas.Fmt.{parse-decimal, decimal_digit, decimal-digits_value, first_decimal, decimal_is_IsNumeral}

own : IsNumeralModel (AllDigits 10) (digits_value 10)
own = numerals_by_value (AllDigits 10) tells_digits

-- the first digit of a positive number
pub first_digit : (n : ℕ) → 0 < n → n < 2 ^ 64 → (48 < get_or (decimal n) 0 0) × (get_or (decimal n) 0 0 < 58)
first_digit n some small =
    let numeral : IsNumeral 10 (decimal n) = (decimal_is_IsNumeral n small).0 in
    let range = digit_at (decimal n) 0 numeral.1 numeral.0 in
    (first_decimal n some small, omega (arith, range))

positive : (n : ℕ) (bs : List ℕ) → bs ≡ decimal n → 48 < get_or bs 0 0 → 0 < n
positive zero bs e low = let here = rw (e ∙ decimal_digit 0 (lit< tt)) at low in absurd (omega (arith, here))
positive (suc n) bs e low = omega arith

-- a text of digits, of which the first isn't 0, is its number's own
number_found : (E : Type 0) (bs : List ℕ) (n : ℕ) → ParsesUnsigned {E = E} 64 10 bs (Ok n)
    → 48 < get_or bs 0 0 → get_or bs 0 0 < 58 → (0 < n) × (n < 2 ^ 64) × (bs ≡ decimal n)
number_found E bs n parses low high =
    let other : get_or bs 0 0 ≢ 43 = omega arith in
    let plain = parse_plain own {E = E} 64 bs (Ok n) parses other in
    let same : decimal n ≡ bs = rw plain.1 (decimal-digits_value own bs plain.0.0 plain.0.1 (λ e. omega arith) plain.0.2) in
    (positive n bs (sym same) low, rw plain.1 plain.0.2, sym same)

pub found_in : (E : Type 0) (bs : List ℕ) (r : Result ℕ E) (o : Option ℕ) → ParsesUnsigned 64 10 bs r → o ≡ result_ok r
    → 48 < get_or bs 0 0 → get_or bs 0 0 < 58 → IfSome o (λ n. (0 < n) × (n < 2 ^ 64) × (bs ≡ decimal n))
found_in E bs (Ok n) o parses e low high = rw e (number_found E bs n parses low high)
found_in E bs (Err x) o parses e low high = rw e tt

pub none_in : {E : Type 0} (bs : List ℕ) (r : Result ℕ E) (o : Option ℕ) → ParsesUnsigned 64 10 bs r → o ≡ result_ok r
    → o ≡ None → (n : ℕ) → 0 < n → n < 2 ^ 64 → bs ≡ decimal n → ⊥
none_in bs r o parses e none n some small text =
    let ok : r ≡ Ok n = parse-decimal 64 n bs r small small text parses in
    let found = ap result_ok ok in
    cc

pub no_digit : (bs : List ℕ) → ((48 < get_or bs 0 0) × (get_or bs 0 0 < 58) → ⊥) → (n : ℕ) → 0 < n → n < 2 ^ 64 → bs ≡ decimal n → ⊥
no_digit bs other n some small text = other (rw text (first_digit n some small))
