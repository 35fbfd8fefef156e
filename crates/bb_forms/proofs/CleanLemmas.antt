-- No line has a line feed within.
use Rattle.std.proofs.Common.{◌≡◌, ℕ, ◌<◌, ◌^◌, ◌/◌, ◌%◌, zero, suc, List, [], ◌∷◌, ◌++◌, codes, decimal, slice_index, Bool, true, false, ◌&&◌, refl, ◌∙◌, arith}
use Rattle.std.specs.Int.{w32, to_be_bytes}
use Rattle.std.specs.List.{AllByRecursion, list_all, flat_map}
use Rattle.std.specs.Char.{is_ascii_digit}
use Rattle.std.proofs.lemmas.Bool.Decides.{nat_tests}
use Rattle.std.proofs.lemmas.List.Folds.{list_all-append}
use Rattle.hex.specs.Hex.{encode_with, lower_digits}
use Rattle.bb_spell.specs.TextLines.{is_line_byte, IsLine}
use Rattle.bb_spell.proofs.Again.{Pass, both_true, decimal_passes}
use Rattle.bb_forms.specs.Fields.{hex_of, number_word, hex_word}

and_join : (a b : Bool) → a ≡ true → b ≡ true → (a && b) ≡ true
and_join true b h k = k
and_join false b h k = h

pub clean_join : (xs ys : List ℕ) → IsLine xs → IsLine ys → IsLine (xs ++ ys)
clean_join xs ys h k = list_all-append is_line_byte xs ys ∙ and_join (list_all is_line_byte xs) (list_all is_line_byte ys) h k

pub clean_parts : {X : Type 0} (P : X → Type 0) (f : X → List ℕ) → ((x : X) → P x → IsLine (f x)) → (xs : List X) → AllByRecursion P xs → IsLine (flat_map f xs)
clean_parts P f g [] h = refl
clean_parts P f g (x ∷ xs) h = clean_join (f x) (flat_map f xs) (g x h.0) (clean_parts P f g xs h.1)

digit_byte : (b : ℕ) → is_ascii_digit b ≡ true → is_line_byte b ≡ true
digit_byte b h = grind (arith, nat_tests)

digits_clean : (xs : List ℕ) → Pass is_ascii_digit xs → IsLine xs
digits_clean [] h = refl
digits_clean (x ∷ xs) h = and_join (is_line_byte x) (list_all is_line_byte xs) (digit_byte x h.0) (digits_clean xs h.1)

pub number_clean : (n : ℕ) → n < 2 ^ 64 → IsLine (number_word n)
number_clean n h = clean_join (codes " ") (decimal n) refl (digits_clean (decimal n) (decimal_passes n h))

at_clean : (xs : List ℕ) (i : ℕ) → IsLine xs → is_line_byte (slice_index xs i) ≡ true
at_clean [] i h = refl
at_clean (x ∷ xs) zero h = (both_true (is_line_byte x) (list_all is_line_byte xs) h).0
at_clean (x ∷ xs) (suc i) h = at_clean xs i (both_true (is_line_byte x) (list_all is_line_byte xs) h).1

encoded_clean : (bytes : List ℕ) → IsLine (encode_with lower_digits bytes)
unfolding encode_with
encoded_clean [] = refl
encoded_clean (b ∷ bytes) =
    let high = at_clean lower_digits (b / 16) refl in
    let low = at_clean lower_digits (b % 16) refl in
    and_join (is_line_byte (slice_index lower_digits (b / 16))) _ high (and_join (is_line_byte (slice_index lower_digits (b % 16))) (list_all is_line_byte (encode_with lower_digits bytes)) low (encoded_clean bytes))

pub hex_clean : (n : ℕ) → IsLine (hex_word n)
unfolding hex_of
hex_clean n = clean_join (codes " ") (encode_with lower_digits (to_be_bytes w32 n)) refl (encoded_clean (to_be_bytes w32 n))
