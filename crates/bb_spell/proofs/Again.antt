-- What is spelled is read: names, numbers and bits.
use Rattle.std.proofs.Common.{◌≡◌, ℕ, ◌+◌, ◌-◌, ◌*◌, ◌<◌, ◌^◌, min, zero, suc, List, [], ◌∷◌, ◌++◌, length, take, drop, codes, decimal, slice_index, Option, Some, None, Bool, true, false, not, ◌&&◌, eqb, nat_lt, refl, ap, ◌∙◌, arith, rules, append_assoc, sym}
use Rattle.std.proofs.lemmas.Bool.Decides.{nat_tests}
use Rattle.std.proofs.lemmas.List.Elements.{recursion_from_All}
use Rattle.std.proofs.Math.Seq.{take-append_seam, drop-append_seam}
use Rattle.std.proofs.lemmas.Fmt.{digits_decimal, digits_value-decimal, first_decimal, decimal_digit, decimal_nonempty}
use Rattle.std.proofs.lemmas.Str.Parse.{IsNumeralModel, numerals_by_fold}
use Rattle.std.specs.List.{prefix_len, AllByRecursion, list_all}
use Rattle.std.specs.Char.{is_ascii_digit}
use Rattle.std.specs.Str.{all_ascii_digits}
use Rattle.bb_base.specs.Name.{IsName, IsNameByte, is_name_byte}
use Rattle.bb_base.specs.Variables.{Bit}
use Rattle.bb_base.specs.Words.{starts_word, is_word_byte}
use Rattle.bb_spell.specs.Spelling.{is_simple, stands_plain, spelled_name, spelled_index, spelled_bit}
use Rattle.bb_base.specs.Keywords.{is_keyword}
use Rattle.bb_spell.specs.Front.{begins_with, after_mark, is_name, plain_at, escaped_at, front_name, value_after, index_limit, is_numeral, number_below, front_index, front_bit}
use Rattle.bb_spell.specs.Writable.{IsIndex, IsBitText}

-- all items pass a test
abbrev pub Pass : (ℕ → Bool) → List ℕ → Type 0
Pass p xs = AllByRecursion (λ b. p b ≡ true) xs

pub both_true : (a b : Bool) → (a && b) ≡ true → (a ≡ true) × (b ≡ true)
both_true true b h = (refl, h)
both_true false b h = cc

pub pass_from_all : (p : ℕ → Bool) (xs : List ℕ) → list_all p xs ≡ true → Pass p xs
pass_from_all p [] h = tt
pass_from_all p (x ∷ xs) h =
    let parts = both_true (p x) (list_all p xs) h in
    (parts.0, pass_from_all p xs parts.1)

pub all_from_pass : (p : ℕ → Bool) (xs : List ℕ) → Pass p xs → list_all p xs ≡ true
all_from_pass p [] h = refl
all_from_pass p (x ∷ xs) h = ap (λ b. b && list_all p xs) h.0 ∙ all_from_pass p xs h.1

prefix_join : (p : ℕ → Bool) (w rest : List ℕ) → Pass p w → prefix_len p rest ≡ 0 → prefix_len p (w ++ rest) ≡ length w
prefix_join p [] rest h e = e
prefix_join p (b ∷ w) rest h e = rw h.0 (omega (arith, prefix_join p w rest h.1 e))

-- bytes that pass end where none follows that does
pub front_join : (p : ℕ → Bool) (w rest : List ℕ) → Pass p w → prefix_len p rest ≡ 0 → take (prefix_len p (w ++ rest)) (w ++ rest) ≡ w
front_join p w rest h e = ap (λ n. take n (w ++ rest)) (prefix_join p w rest h e) ∙ take-append_seam w rest

pub back_join : (p : ℕ → Bool) (w rest : List ℕ) → Pass p w → prefix_len p rest ≡ 0 → drop (prefix_len p (w ++ rest)) (w ++ rest) ≡ rest
back_join p w rest h e = ap (λ n. drop n (w ++ rest)) (prefix_join p w rest h e) ∙ drop-append_seam w rest

name_byte : (b : ℕ) → IsNameByte b → is_name_byte b ≡ true
name_byte b h = grind (arith, nat_tests)

pub name_passes : (w : List ℕ) → AllByRecursion IsNameByte w → Pass is_name_byte w
name_passes [] h = tt
name_passes (b ∷ w) h = (name_byte b h.0, name_passes w h.1)

name_ok : (w : List ℕ) → IsName w → is_name w ≡ true
name_ok w h =
    let plain : list_all is_name_byte w ≡ true = all_from_pass is_name_byte w (name_passes w (recursion_from_All IsNameByte w h.plain)) in
    grind (arith, nat_tests, h.some, h.short, plain)

start_byte : (b : ℕ) → starts_word b ≡ true → is_word_byte b ≡ true
start_byte b h = grind (arith, nat_tests)

start_other : (b : ℕ) → starts_word b ≡ true → eqb b 92 ≡ false
start_other b h = grind (arith, nat_tests)

simple_word : (name : List ℕ) → is_simple name ≡ true → Pass is_word_byte name
simple_word [] h = cc
simple_word (b ∷ bs) h =
    let parts = both_true (starts_word b) (list_all is_word_byte bs) h in
    (start_byte b parts.0, pass_from_all is_word_byte bs parts.1)

simple_plain : (name rest : List ℕ) → is_simple name ≡ true → begins_with (codes "\\") (name ++ rest) ≡ false
simple_plain [] rest h = cc
simple_plain (b ∷ bs) rest h =
    let parts = both_true (starts_word b) (list_all is_word_byte bs) h in
    rw (start_other b parts.0) refl

plain_again : (name rest : List ℕ) → IsName name → stands_plain name ≡ true → prefix_len is_word_byte rest ≡ 0 → plain_at (name ++ rest) ≡ Some (name, rest)
plain_again name rest h p e =
    let word = simple_word name (both_true (is_simple name) (not (is_keyword name)) p).0 in
    rw (front_join is_word_byte name rest word e, back_join is_word_byte name rest word e, name_ok name h, p) refl

escaped_again : (name rest : List ℕ) → IsName name → stands_plain name ≡ false → escaped_at (name ++ (32 ∷ rest)) ≡ Some (name, rest)
escaped_again name rest h p =
    let word = name_passes name (recursion_from_All IsNameByte name h.plain) in
    rw (front_join is_name_byte name (32 ∷ rest) word refl, back_join is_name_byte name (32 ∷ rest) word refl, name_ok name h, p) refl

-- a name
pub name_again : (name rest : List ℕ) → IsName name → prefix_len is_word_byte rest ≡ 0 → front_name (spelled_name name ++ rest) ≡ Some (name, rest)
unfolding front_name spelled_name
name_again name rest h e = go (stands_plain name) refl
  where
    go : (b : Bool) → stands_plain name ≡ b → front_name (spelled_name name ++ rest) ≡ Some (name, rest)
    go true p = rw p (rw (simple_plain name rest (both_true (is_simple name) (not (is_keyword name)) p).0) (plain_again name rest h p e))
    go false p = rw p (rw (append_assoc name (codes " ") rest) (escaped_again name rest h p))

-- decimal digits, in the library's words
pub own : IsNumeralModel (λ ds. all_ascii_digits ds ≡ true) (value_after 0)
own = numerals_by_fold _ (search rules) value_after (search rules)

cap_under : (limit n c : ℕ) → min (10 * min n limit + (c - 48)) limit ≡ min (10 * n + (c - 48)) limit
cap_under limit n c = omega arith

-- where only whether a number reaches the limit counts, it may be cut off at the limit on the way
pub capped : (limit n : ℕ) (ds : List ℕ) → min (value_after (min n limit) ds) limit ≡ min (value_after n ds) limit
capped limit n [] = omega arith
capped limit n (c ∷ cs) =
    sym (capped limit (10 * min n limit + (c - 48)) cs) ∙ ap (λ m. min (value_after m cs) limit) (cap_under limit n c) ∙ capped limit (10 * n + (c - 48)) cs

at_digit : (ds : List ℕ) (i : ℕ) → i < length ds → drop i ds ≡ slice_index ds i ∷ drop (i + 1) ds
at_digit [] i h = absurd (omega arith)
at_digit (c ∷ cs) zero h = refl
at_digit (c ∷ cs) (suc i) h = at_digit cs i (omega arith) ∙ ap (λ n. slice_index cs i ∷ drop n (c ∷ cs)) (let e : suc (i + 1) ≡ suc i + 1 = omega arith in e)

-- one digit more
pub digit_step : (limit v next i all : ℕ) (ds : List ℕ) → next ≡ min (10 * v + (slice_index ds i - 48)) limit → i < length ds → min (value_after v (drop i ds)) limit ≡ all → min (value_after next (drop (i + 1) ds)) limit ≡ all
digit_step limit v next i all ds step inside h =
    let rest : List ℕ = drop (i + 1) ds in
    ap (λ m. min (value_after m rest) limit) step ∙ capped limit (10 * v + (slice_index ds i - 48)) rest ∙ sym (ap (λ xs. min (value_after v xs) limit) (at_digit ds i inside)) ∙ h

digits_pass : (ds : List ℕ) → all_ascii_digits ds ≡ true → Pass is_ascii_digit ds
digits_pass [] h = tt
digits_pass (c ∷ cs) h =
    let parts = both_true (is_ascii_digit c) (all_ascii_digits cs) h in
    (parts.0, digits_pass cs parts.1)

pub decimal_passes : (n : ℕ) → n < 2 ^ 64 → Pass is_ascii_digit (decimal n)
decimal_passes n h = digits_pass (decimal n) (digits_decimal own n h)

pub read_decimal : (n : ℕ) → n < 2 ^ 64 → value_after 0 (decimal n) ≡ n
read_decimal n h = digits_value-decimal own n h

is_number_long : (ds : List ℕ) → 0 < length ds → 48 < slice_index ds 0 → is_numeral ds ≡ true
is_number_long ds h k = grind (arith, nat_tests)

decimal_number : (n : ℕ) → n < 2 ^ 64 → is_numeral (decimal n) ≡ true
decimal_number zero h = ap is_numeral (decimal_digit 0 (omega arith))
decimal_number (suc n) h = is_number_long (decimal (suc n)) (decimal_nonempty (suc n) h) (first_decimal (suc n) (omega arith) h)

less_true : (m n : ℕ) → m < n → nat_lt m n ≡ true
less_true m n h = grind (arith, nat_tests)

number_found : (limit : ℕ) (ds rest : List ℕ) (n : ℕ) → Pass is_ascii_digit ds → prefix_len is_ascii_digit rest ≡ 0 → is_numeral ds ≡ true → value_after 0 ds ≡ n → n < limit → number_below limit (ds ++ rest) ≡ Some (n, rest)
unfolding number_below
number_found limit ds rest n pass e ok value small = rw (front_join is_ascii_digit ds rest pass e, back_join is_ascii_digit ds rest pass e, ok, value, less_true n limit small) refl

-- a number below any limit
pub number_below_again : (limit n : ℕ) (rest : List ℕ) → n < limit → n < 2 ^ 64 → prefix_len is_ascii_digit rest ≡ 0 → number_below limit (decimal n ++ rest) ≡ Some (n, rest)
number_below_again limit n rest small fits e = number_found limit (decimal n) rest n (decimal_passes n fits) e (decimal_number n fits) (read_decimal n fits) small

-- an index's number
pub number_again : (n : ℕ) (rest : List ℕ) → n < index_limit → prefix_len is_ascii_digit rest ≡ 0 → number_below index_limit (decimal n ++ rest) ≡ Some (n, rest)
number_again n rest small e = number_below_again index_limit n rest small (omega arith) e

-- no byte of a name or of an index begins what follows
pub record Ends (rest : List ℕ) : Type 0 where
  pub word : prefix_len is_word_byte rest ≡ 0
  pub bracket : begins_with (codes "[") rest ≡ false

index_stops : (i : Option ℕ) (rest : List ℕ) → Ends rest → prefix_len is_word_byte (spelled_index i ++ rest) ≡ 0
index_stops None rest e = e.word
index_stops (Some i) rest e = refl

none_again : (rest : List ℕ) → begins_with (codes "[") rest ≡ false → front_index rest ≡ Some (None, rest)
unfolding front_index
none_again rest e = rw e refl

some_again : (bytes inner rest : List ℕ) (i : ℕ) → begins_with (codes "[") bytes ≡ true → number_below index_limit (drop 1 bytes) ≡ Some (i, inner) → after_mark (codes "]") inner ≡ Some rest → front_index bytes ≡ Some (Some i, rest)
unfolding front_index
some_again bytes inner rest i a b c = rw (a, b, c) refl

index_again : (i : Option ℕ) (rest : List ℕ) → IsIndex i → Ends rest → front_index (spelled_index i ++ rest) ≡ Some (i, rest)
index_again None rest h e = none_again rest e.bracket
index_again (Some i) rest h e =
    let inner : List ℕ = 93 ∷ rest in
    let number : number_below index_limit ((decimal i ++ codes "]") ++ rest) ≡ Some (i, inner) = ap (number_below index_limit) (append_assoc (decimal i) (codes "]") rest) ∙ number_again i inner h refl in
    some_again (spelled_index (Some i) ++ rest) inner rest i refl number refl

bit_found : (bytes mid rest name : List ℕ) (i : Option ℕ) → front_name bytes ≡ Some (name, mid) → front_index mid ≡ Some (i, rest) → front_bit bytes ≡ Some (record { name = name; index = i }, rest)
unfolding front_bit
bit_found bytes mid rest name i a b = rw (a, b) refl

-- a bit
pub bit_again : (b : Bit) (rest : List ℕ) → IsBitText b → Ends rest → front_bit (spelled_bit b ++ rest) ≡ Some (b, rest)
bit_again b rest h e =
    let tail : List ℕ = spelled_index b.index ++ rest in
    let name : front_name (spelled_bit b ++ rest) ≡ Some (b.name, tail) = ap front_name (append_assoc (spelled_name b.name) (spelled_index b.index) rest) ∙ name_again b.name tail h.name (index_stops b.index rest e) in
    bit_found (spelled_bit b ++ rest) tail rest b.name b.index name (index_again b.index rest h.index e)

start_bracket : (b : ℕ) → starts_word b ≡ true → eqb b 91 ≡ false
start_bracket b h = grind (arith, nat_tests)

simple_start : (name rest : List ℕ) → is_simple name ≡ true → begins_with (codes " [") (32 ∷ (name ++ rest)) ≡ false
simple_start [] rest h = cc
simple_start (b ∷ bs) rest h =
    let parts = both_true (starts_word b) (list_all is_word_byte bs) h in
    rw (start_bracket b parts.0) refl

-- no name begins as a range does
pub plain_start : (name rest : List ℕ) → begins_with (codes " [") (32 ∷ (spelled_name name ++ rest)) ≡ false
unfolding spelled_name
plain_start name rest = go (stands_plain name) refl
  where
    go : (b : Bool) → stands_plain name ≡ b → begins_with (codes " [") (32 ∷ (spelled_name name ++ rest)) ≡ false
    go true p = rw p (simple_start name rest (both_true (is_simple name) (not (is_keyword name)) p).0)
    go false p = rw p refl
