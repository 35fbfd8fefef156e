-- What is written in a line is read, and what is read was written so.
use Rattle.std.proofs.Common.{◌≡◌, ℕ, ◌<◌, ◌≤◌, ◌^◌, zero, suc, List, [], ◌++◌, length, take, codes, decimal, Some, true, refl, sym, ap, ◌∙◌, arith, append_assoc, subst, Result, Ok, Err}
use Rattle.std.specs.Int.{w32, to_be_bytes, from_be_bytes}
use Rattle.std.specs.List.{prefix_len}
use Rattle.std.specs.Char.{is_ascii_digit}
use Rattle.std.specs.Str.{bytes_eq}
use Rattle.std.proofs.lemmas.List.{append-nil}
use Rattle.std.proofs.lemmas.Nat.{from_be_bytes-to_be_bytes_4}
use Rattle.std.proofs.lemmas.Slice.Eq.{bytes_eq-Decides}
use Rattle.std.proofs.Math.Seq.{take-append_seam, drop-append_seam}
use Rattle.hex.specs.Hex.{decode_sized, IsBytes, lower_digits}
use Rattle.hex.specs.declared.error.FromHexError.{FromHexError}
use Rattle.hex.proofs.HexLemmas.{length-encode_with, decode_sized-encode_lower, decode_sized-ok, decode_sized-twice, decode_of-ok}
use Rattle.bb_spell.specs.Front.{◌>>=◌, begins_with, after_mark, at_end, number_below}
use Rattle.bb_spell.proofs.Again.{number_below_again}
use Rattle.bb_spell.proofs.Back.{Back, IsBelow, number_below_back, mark_back, end_back}
use Rattle.bb_spell.proofs.Shorter.{bind_some, found_same}
use Rattle.bb_forms.specs.Fields.{field_limit, hex_of, number_word, hex_word}
use Rattle.bb_forms.specs.Reading.{front_number, hex_value, hex_at, front_hex, marked_number, marked_hex}

-- marks
pub same_test : (bytes : List ℕ) → bytes_eq bytes bytes ≡ true
same_test bytes = (bytes_eq-Decides bytes bytes).1 refl

pub mark_again : (mark rest : List ℕ) → after_mark mark (mark ++ rest) ≡ Some rest
mark_again mark rest =
    let front : begins_with mark (mark ++ rest) ≡ true = ap (λ z. bytes_eq z mark) (take-append_seam mark rest) ∙ same_test mark in
    rw front (ap Some (drop-append_seam mark rest))

end_again : {A : Type 0} (x : A) → at_end x [] [] ≡ Some x
end_again x = refl

-- decimal numbers
pub front_number_back : (limit : ℕ) (bytes : List ℕ) (n : ℕ) (rest : List ℕ) → limit ≤ 2 ^ 64 → front_number limit bytes ≡ Some (n, rest) → Back (IsBelow limit) number_word bytes n rest
unfolding front_number
front_number_back limit bytes n rest fits h =
    let from = bind_some (after_mark (codes " ") bytes) (λ from. number_below limit from) (n, rest) h in
    let number = number_below_back limit from.0 n rest fits from.2 in
    record { ok = number.ok; is = mark_back (codes " ") bytes from.0 from.1 ∙ ap (λ z. codes " " ++ z) number.is ∙ sym (append_assoc (codes " ") (decimal n) rest) }

pub front_number_again : (limit n : ℕ) (rest : List ℕ) → n < limit → n < 2 ^ 64 → prefix_len is_ascii_digit rest ≡ 0 → front_number limit (number_word n ++ rest) ≡ Some (n, rest)
unfolding front_number
front_number_again limit n rest small fits e =
    ap (λ o. o >>= (λ from. number_below limit from)) (ap (after_mark (codes " ")) (append_assoc (codes " ") (decimal n) rest) ∙ mark_again (codes " ") (decimal n ++ rest)) ∙ number_below_again limit n rest small fits e

-- hexadecimal ones
four_bytes : (bytes : List ℕ) → length bytes ≡ 4 → IsBytes bytes → from_be_bytes w32 bytes < field_limit
four_bytes bytes l small = let a = small 0 in let b = small 1 in let c = small 2 in let d = small 3 in omega (arith, a, b, c, d)

value_below : (text : List ℕ) (r : Result (List ℕ) FromHexError) (n : ℕ) → decode_sized text 4 ≡ r → hex_value r ≡ Some n → n < field_limit
value_below text (Err e) n d h = cc
value_below text (Ok bytes) n d h =
    let long = decode_sized-ok text 4 bytes d in
    let parts = decode_of-ok text bytes (sym (decode_sized-twice text 4 long) ∙ d) in
    let is : from_be_bytes w32 bytes ≡ n = cc in
    subst (IsBelow field_limit) is (four_bytes bytes (omega (arith, long, parts.2)) parts.3)

pub front_hex_back : (bytes : List ℕ) (n : ℕ) (rest : List ℕ) → front_hex bytes ≡ Some (n, rest) → Back (IsBelow field_limit) hex_word bytes n rest
unfolding front_hex hex_at
front_hex_back bytes n rest h =
    let from = bind_some (after_mark (codes " ") bytes) _ (n, rest) h in
    let value = bind_some (hex_value (decode_sized (take 8 from.0) 4)) _ (n, rest) from.2 in
    let behind = bind_some (after_mark (hex_of value.0) from.0) _ (n, rest) value.2 in
    let same = found_same value.0 n behind.0 rest behind.2 in
    let digits : from.0 ≡ hex_of n ++ rest = mark_back (hex_of value.0) from.0 behind.0 behind.1 ∙ (λ i. hex_of (same.0 i) ++ same.1 i) in
    record {
      ok = subst (IsBelow field_limit) same.0 (value_below (take 8 from.0) (decode_sized (take 8 from.0) 4) value.0 refl value.1);
      is = mark_back (codes " ") bytes from.0 from.1 ∙ ap (λ z. codes " " ++ z) digits ∙ sym (append_assoc (codes " ") (hex_of n) rest);
    }

be_bytes : (n : ℕ) → IsBytes (to_be_bytes w32 n)
be_bytes n zero = omega arith
be_bytes n (suc zero) = omega arith
be_bytes n (suc (suc zero)) = omega arith
be_bytes n (suc (suc (suc zero))) = omega arith
be_bytes n (suc (suc (suc (suc i)))) = omega arith

pub length-hex_of : (n : ℕ) → length (hex_of n) ≡ 8
unfolding hex_of
length-hex_of n = length-encode_with lower_digits (to_be_bytes w32 n)

hex_decoded : (n : ℕ) → n < field_limit → hex_value (decode_sized (hex_of n) 4) ≡ Some n
unfolding hex_of
hex_decoded n small = ap hex_value (decode_sized-encode_lower (to_be_bytes w32 n) 4 refl (be_bytes n)) ∙ ap Some (from_be_bytes-to_be_bytes_4 n small)

front_digits : (n : ℕ) (rest : List ℕ) → take 8 (hex_of n ++ rest) ≡ hex_of n
front_digits n rest = ap (λ k. take k (hex_of n ++ rest)) (sym (length-hex_of n)) ∙ take-append_seam (hex_of n) rest

hex_at_again : (n : ℕ) (rest : List ℕ) → n < field_limit → hex_at (hex_of n ++ rest) ≡ Some (n, rest)
unfolding hex_at
hex_at_again n rest small =
    let value : hex_value (decode_sized (take 8 (hex_of n ++ rest)) 4) ≡ Some n = ap (λ z. hex_value (decode_sized z 4)) (front_digits n rest) ∙ hex_decoded n small in
    rw (value, mark_again (hex_of n) rest) refl

pub front_hex_again : (n : ℕ) (rest : List ℕ) → n < field_limit → front_hex (hex_word n ++ rest) ≡ Some (n, rest)
unfolding front_hex
front_hex_again n rest small =
    ap (λ o. o >>= (λ digits. hex_at digits)) (ap (after_mark (codes " ")) (append_assoc (codes " ") (hex_of n) rest) ∙ mark_again (codes " ") (hex_of n ++ rest)) ∙ hex_at_again n rest small

-- lines of a mark and a number
pub marked_number_back : (mark : List ℕ) (limit : ℕ) (line : List ℕ) (n : ℕ) → limit ≤ 2 ^ 64 → marked_number mark limit line ≡ Some n → (n < limit) × (line ≡ mark ++ number_word n)
unfolding marked_number
marked_number_back mark limit line n fits h =
    let from = bind_some (after_mark mark line) _ n h in
    let number = bind_some (front_number limit from.0) _ n from.2 in
    let end = end_back number.0.0 [] number.0.1 n number.2 in
    let back = front_number_back limit from.0 number.0.0 number.0.1 fits number.1 in
    (subst (IsBelow limit) end.0 back.ok, mark_back mark line from.0 from.1 ∙ ap (λ z. mark ++ z) (back.is ∙ (λ i. number_word (end.0 i) ++ end.1 i) ∙ append-nil (number_word n)))

pub marked_number_again : (mark : List ℕ) (limit n : ℕ) → n < limit → n < 2 ^ 64 → marked_number mark limit (mark ++ number_word n) ≡ Some n
unfolding marked_number
marked_number_again mark limit n small fits =
    let word : front_number limit (number_word n) ≡ Some (n, []) = ap (front_number limit) (sym (append-nil (number_word n))) ∙ front_number_again limit n [] small fits refl in
    rw (mark_again mark (number_word n), word) refl

pub marked_hex_back : (mark line : List ℕ) (n : ℕ) → marked_hex mark line ≡ Some n → (n < field_limit) × (line ≡ mark ++ hex_word n)
unfolding marked_hex
marked_hex_back mark line n h =
    let from = bind_some (after_mark mark line) _ n h in
    let number = bind_some (front_hex from.0) _ n from.2 in
    let end = end_back number.0.0 [] number.0.1 n number.2 in
    let back = front_hex_back from.0 number.0.0 number.0.1 number.1 in
    (subst (IsBelow field_limit) end.0 back.ok, mark_back mark line from.0 from.1 ∙ ap (λ z. mark ++ z) (back.is ∙ (λ i. hex_word (end.0 i) ++ end.1 i) ∙ append-nil (hex_word n)))

pub marked_hex_again : (mark : List ℕ) (n : ℕ) → n < field_limit → marked_hex mark (mark ++ hex_word n) ≡ Some n
unfolding marked_hex
marked_hex_again mark n small =
    let word : front_hex (hex_word n) ≡ Some (n, []) = ap front_hex (sym (append-nil (hex_word n))) ∙ front_hex_again n [] small in
    rw (mark_again mark (hex_word n), word) refl

pub last_hex : (n : ℕ) → n < field_limit → front_hex (hex_word n) ≡ Some (n, [])
last_hex n small = ap front_hex (sym (append-nil (hex_word n))) ∙ front_hex_again n [] small
