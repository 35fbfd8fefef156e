-- What is read is spelled so: names, numbers and bits.
use Rattle.std.proofs.Common.{◌≡◌, ℕ, ◌<◌, ◌≤◌, ◌^◌, suc, List, [], ◌∷◌, ◌++◌, length, take, drop, codes, decimal, slice_index, Option, Some, None, Bool, true, false, ◌&&◌, ◌||◌, eqb, nat_lt, refl, sym, ap, ◌∙◌, arith, rules, append_assoc, if◌then◌else◌, subst}
use Rattle.std.proofs.lemmas.Bool.Decides.{nat_tests}
use Rattle.std.proofs.lemmas.List.{take-append-drop}
use Rattle.std.proofs.lemmas.List.Elements.{All-from_recursion}
use Rattle.std.proofs.lemmas.Fmt.{decimal-digits_value}
use Rattle.std.proofs.lemmas.Slice.Eq.{bytes_eq-Decides}
use Rattle.std.specs.List.{prefix_len, AllByRecursion, list_all}
use Rattle.std.specs.Char.{is_ascii_digit}
use Rattle.std.specs.Str.{bytes_eq, all_ascii_digits}
use Rattle.bb_base.specs.Name.{IsName, IsNameByte, is_name_byte}
use Rattle.bb_base.specs.Variables.{Bit, IsRange}
use Rattle.bb_base.specs.Words.{is_word_byte}
use Rattle.bb_spell.specs.Spelling.{stands_plain, spelled_name, spelled_index, spelled_bit, spelled_range}
use Rattle.bb_spell.specs.Writable.{IsIndex, IsBitText}
use Rattle.bb_spell.specs.Front.{◌>>=◌, begins_with, after_mark, at_end, word_of, after_word, graphic_of, after_graphic, is_name, plain_at, escaped_at, front_name, value_after, index_limit, digits_of, after_digits, is_numeral, number_below, front_index, front_bit, front_range}
use Rattle.bb_spell.proofs.Again.{Pass, pass_from_all, own}
use Rattle.bb_spell.proofs.Shorter.{bind_some, found_same, guard_some, unless_some}

-- what was read fits, and its spelling stands at the front
pub record Back {A : Type 0} (fits : A → Type 0) (spell : A → List ℕ) (bytes : List ℕ) (x : A) (rest : List ℕ) : Type 0 where
  pub ok : fits x
  pub is : bytes ≡ spell x ++ rest

pub same_bytes : (xs ys : List ℕ) → bytes_eq xs ys ≡ true → xs ≡ ys
same_bytes xs ys h = search (rules, bytes_eq-Decides)

pub begins_back : (mark bytes : List ℕ) → begins_with mark bytes ≡ true → bytes ≡ mark ++ drop (length mark) bytes
begins_back mark bytes h = sym (take-append-drop (length mark) bytes) ∙ ap (λ z. z ++ drop (length mark) bytes) (same_bytes (take (length mark) bytes) mark h)

pub some_same : {A : Type 0} (x y : A) → ◌≡◌ {A = Option A} (Some x) (Some y) → x ≡ y
some_same x y h = cc

pub mark_back : (mark bytes rest : List ℕ) → after_mark mark bytes ≡ Some rest → bytes ≡ mark ++ rest
mark_back mark bytes rest h =
    let one = guard_some {A = List ℕ} (begins_with mark bytes) (Some (drop (length mark) bytes)) rest h in
    let same : drop (length mark) bytes ≡ rest = some_same (drop (length mark) bytes) rest one.1 in
    begins_back mark bytes one.0 ∙ ap (λ z. mark ++ z) same

pub end_back : {A : Type 0} (x : A) (end bytes : List ℕ) (y : A) → at_end x end bytes ≡ Some y → (x ≡ y) × (bytes ≡ end)
end_back {A} x end bytes y h =
    let one = guard_some {A = A} (bytes_eq bytes end) (Some x) y h in
    (some_same x y one.1, same_bytes bytes end one.0)

-- names
passes_front : (p : ℕ → Bool) (xs : List ℕ) → Pass p (take (prefix_len p xs) xs)
passes_front p [] = tt
passes_front p (x ∷ xs) = go (p x) refl (passes_front p xs)
  where
    go : (b : Bool) → p x ≡ b → Pass p (take (prefix_len p xs) xs) → Pass p (take (prefix_len p (x ∷ xs)) (x ∷ xs))
    go true e rest =
        let n : prefix_len p (x ∷ xs) ≡ suc (prefix_len p xs) = rw e (omega arith) in
        subst (λ k. Pass p (take k (x ∷ xs))) (sym n) (e, rest)
    go false e rest =
        let n : prefix_len p (x ∷ xs) ≡ 0 = rw e refl in
        subst (λ k. Pass p (take k (x ∷ xs))) (sym n) tt

name_byte : (b : ℕ) → is_name_byte b ≡ true → IsNameByte b
name_byte b h = grind (arith, nat_tests)

name_bytes : (bs : List ℕ) → Pass is_name_byte bs → AllByRecursion IsNameByte bs
name_bytes [] h = tt
name_bytes (b ∷ bs) h = (name_byte b h.0, name_bytes bs h.1)

neither : (a b c : Bool) → (if a || b then false else c) ≡ true → (a ≡ false) × (b ≡ false) × (c ≡ true)
neither true b c h = cc
neither false true c h = cc
neither false false c h = (refl, refl, h)

is_name_back : (w : List ℕ) → is_name w ≡ true → IsName w
is_name_back w h =
    let parts = neither (eqb (length w) 0) (nat_lt 1024 (length w)) (list_all is_name_byte w) h in
    let some : 0 < length w = grind (arith, nat_tests, parts.0) in
    let short : length w ≤ 1024 = grind (arith, nat_tests, parts.1) in
    record { some = some; short = short; plain = All-from_recursion IsNameByte w (name_bytes w (pass_from_all is_name_byte w parts.2)) }

plain_spelling : (name : List ℕ) → stands_plain name ≡ true → spelled_name name ≡ name
unfolding spelled_name
plain_spelling name h = rw h refl

escaped_spelling : (name : List ℕ) → stands_plain name ≡ false → spelled_name name ≡ 92 ∷ (name ++ codes " ")
unfolding spelled_name
escaped_spelling name h = rw h refl

plain_back : (bytes name rest : List ℕ) → plain_at bytes ≡ Some (name, rest) → Back IsName spelled_name bytes name rest
plain_back bytes name rest h =
    let one = guard_some {A = List ℕ × List ℕ} (is_name (word_of bytes)) _ (name, rest) h in
    let two = guard_some {A = List ℕ × List ℕ} (stands_plain (word_of bytes)) _ (name, rest) one.1 in
    let same = found_same (word_of bytes) name (after_word bytes) rest two.1 in
    let plain : stands_plain name ≡ true = ap stands_plain (sym same.0) ∙ two.0 in
    record {
      ok = subst IsName same.0 (is_name_back (word_of bytes) one.0);
      is = sym (take-append-drop (prefix_len is_word_byte bytes) bytes) ∙ (λ i. same.0 i ++ same.1 i) ∙ ap (λ z. z ++ rest) (sym (plain_spelling name plain));
    }

escaped_back : (bytes name rest : List ℕ) → escaped_at bytes ≡ Some (name, rest) → Back IsName spelled_name (92 ∷ bytes) name rest
escaped_back bytes name rest h =
    let one = guard_some {A = List ℕ × List ℕ} (is_name (graphic_of bytes)) _ (name, rest) h in
    let two = unless_some {A = List ℕ × List ℕ} (stands_plain (graphic_of bytes)) _ (name, rest) one.1 in
    let m = bind_some (after_mark (codes " ") (after_graphic bytes)) _ (name, rest) two.1 in
    let same = found_same (graphic_of bytes) name m.0 rest m.2 in
    let plain : stands_plain name ≡ false = ap stands_plain (sym same.0) ∙ two.0 in
    let tail : after_graphic bytes ≡ codes " " ++ rest = mark_back (codes " ") (after_graphic bytes) m.0 m.1 ∙ ap (λ z. codes " " ++ z) same.1 in
    let parts : bytes ≡ name ++ (codes " " ++ rest) = sym (take-append-drop (prefix_len is_name_byte bytes) bytes) ∙ (λ i. same.0 i ++ tail i) in
    record {
      ok = subst IsName same.0 (is_name_back (graphic_of bytes) one.0);
      is = ap (λ z. 92 ∷ z) (parts ∙ sym (append_assoc name (codes " ") rest)) ∙ ap (λ z. z ++ rest) (sym (escaped_spelling name plain));
    }

pub choice_told : {A : Type 0} (b : Bool) (o p : Option A) (y : A) (P : Type 0) → (b ≡ true → o ≡ Some y → P) → (b ≡ false → p ≡ Some y → P) → (if b then o else p) ≡ Some y → P
choice_told true o p y P f g h = f refl h
choice_told false o p y P f g h = g refl h

pub name_back : (bytes name rest : List ℕ) → front_name bytes ≡ Some (name, rest) → Back IsName spelled_name bytes name rest
unfolding front_name
name_back bytes name rest h =
    choice_told {A = List ℕ × List ℕ} (begins_with (codes "\\") bytes) (escaped_at (drop 1 bytes)) (plain_at bytes) (name, rest) (Back IsName spelled_name bytes name rest)
    (λ b e. subst (λ z. Back IsName spelled_name z name rest) (sym (begins_back (codes "\\") bytes b)) (escaped_back (drop 1 bytes) name rest e)) (λ b e. plain_back bytes name rest e) h

-- numbers
digits_all : (ds : List ℕ) → Pass is_ascii_digit ds → all_ascii_digits ds ≡ true
digits_all [] h = refl
digits_all (c ∷ cs) h = ap (λ b. b && all_ascii_digits cs) h.0 ∙ digits_all cs h.1

number_parts : (ds : List ℕ) → is_numeral ds ≡ true → (0 < length ds) × (slice_index ds 0 ≡ 48 → length ds ≡ 1)
number_parts [] h = cc
number_parts (c ∷ []) h = (omega arith, λ e. refl)
number_parts (c ∷ d ∷ ds) h = grind (arith, nat_tests)

digits_back : (ds : List ℕ) (n : ℕ) → Pass is_ascii_digit ds → is_numeral ds ≡ true → value_after 0 ds ≡ n → n < 2 ^ 64 → decimal n ≡ ds
digits_back ds n pass ok value small =
    let parts = number_parts ds ok in
    let fits : value_after 0 ds < 2 ^ 64 = omega (arith, value, small) in
    ap decimal (sym value) ∙ decimal-digits_value own ds (digits_all ds pass) parts.0 parts.1 fits

less_back : (m n : ℕ) → nat_lt m n ≡ true → m < n
less_back m n h = grind (arith, nat_tests)

abbrev pub IsBelow : ℕ → ℕ → Type 0
IsBelow limit n = n < limit

pub number_below_back : (limit : ℕ) (bytes : List ℕ) (n : ℕ) (rest : List ℕ) → limit ≤ 2 ^ 64 → number_below limit bytes ≡ Some (n, rest) → Back (IsBelow limit) decimal bytes n rest
unfolding number_below
number_below_back limit bytes n rest fits h =
    let one = guard_some {A = ℕ × List ℕ} (is_numeral (digits_of bytes)) _ (n, rest) h in
    let two = guard_some {A = ℕ × List ℕ} (nat_lt (value_after 0 (digits_of bytes)) limit) _ (n, rest) one.1 in
    let same = found_same (value_after 0 (digits_of bytes)) n (after_digits bytes) rest two.1 in
    let small : n < limit = subst (IsBelow limit) same.0 (less_back (value_after 0 (digits_of bytes)) limit two.0) in
    let digits : decimal n ≡ digits_of bytes = digits_back (digits_of bytes) n (passes_front is_ascii_digit bytes) one.0 same.0 (omega (arith, small, fits)) in
    record { ok = small; is = sym (take-append-drop (prefix_len is_ascii_digit bytes) bytes) ∙ (λ i. sym digits i ++ same.1 i) }

pub number_back : (bytes : List ℕ) (n : ℕ) (rest : List ℕ) → number_below index_limit bytes ≡ Some (n, rest) → Back (IsBelow index_limit) decimal bytes n rest
number_back bytes n rest h = number_below_back index_limit bytes n rest (omega arith) h

-- an index
some_index_back : (bytes : List ℕ) (i : Option ℕ) (rest : List ℕ) (f : ℕ × List ℕ → Option (Option ℕ × List ℕ)) → ((n : ℕ × List ℕ) → f n ≡ (after_mark (codes "]") n.1 >>= (λ r. Some (Some n.0, r))))
    → bytes ≡ codes "[" ++ drop 1 bytes → (number_below index_limit (drop 1 bytes) >>= f) ≡ Some (i, rest) → Back IsIndex spelled_index bytes i rest
some_index_back bytes i rest f is b h =
    let n = bind_some (number_below index_limit (drop 1 bytes)) f (i, rest) h in
    let r = bind_some (after_mark (codes "]") n.0.1) _ (i, rest) (sym (is n.0) ∙ n.2) in
    let same = found_same (Some n.0.0) i r.0 rest r.2 in
    let number = number_back (drop 1 bytes) n.0.0 n.0.1 n.1 in
    let tail : n.0.1 ≡ codes "]" ++ rest = mark_back (codes "]") n.0.1 r.0 r.1 ∙ ap (λ z. codes "]" ++ z) same.1 in
    let found : Back IsIndex spelled_index bytes (Some n.0.0) rest = record { ok = number.ok; is = b ∙ ap (λ z. 91 ∷ z) (number.is ∙ ap (λ z. decimal n.0.0 ++ z) tail ∙ sym (append_assoc (decimal n.0.0) (codes "]") rest)) } in
    subst (λ o. Back IsIndex spelled_index bytes o rest) same.0 found

pub index_back : (bytes : List ℕ) (i : Option ℕ) (rest : List ℕ) → front_index bytes ≡ Some (i, rest) → Back IsIndex spelled_index bytes i rest
unfolding front_index
index_back bytes i rest h =
    choice_told {A = Option ℕ × List ℕ} (begins_with (codes "[") bytes) _ (Some (None, bytes)) (i, rest) (Back IsIndex spelled_index bytes i rest) (λ b e. some_index_back bytes i rest _ (λ n. refl) (begins_back (codes "[") bytes b) e) (λ b e.
    let same = found_same None i bytes rest e in
    subst (λ o. Back IsIndex spelled_index bytes o rest) same.0 (record { ok = tt; is = same.1 })) h

-- a bit
pub bit_back : (bytes : List ℕ) (b : Bit) (rest : List ℕ) → front_bit bytes ≡ Some (b, rest) → Back IsBitText spelled_bit bytes b rest
unfolding front_bit
bit_back bytes b rest h =
    let n = bind_some (front_name bytes) _ (b, rest) h in
    let i = bind_some (front_index n.0.1) _ (b, rest) n.2 in
    let read : Bit = record { name = n.0.0; index = i.0.0 } in
    let same = found_same read b i.0.1 rest i.2 in
    let name = name_back bytes n.0.0 n.0.1 n.1 in
    let index = index_back n.0.1 i.0.0 i.0.1 i.1 in
    let found : Back IsBitText spelled_bit bytes read i.0.1 = record { ok = record { name = name.ok; index = index.ok }; is = name.is ∙ ap (λ z. spelled_name n.0.0 ++ z) index.is ∙ sym (append_assoc (spelled_name n.0.0) (spelled_index i.0.0) i.0.1) } in
    subst (λ x. Back IsBitText spelled_bit bytes x rest) same.0 (subst (λ z. Back IsBitText spelled_bit bytes read z) same.1 found)

-- a range
some_range_back : (bytes : List ℕ) (r : Option (ℕ × ℕ)) (rest : List ℕ) (one two three : List ℕ) (left right : ℕ) → bytes ≡ codes " [" ++ drop 2 bytes → number_below index_limit (drop 2 bytes) ≡ Some (left, one) → after_mark (codes ":") one ≡ Some two → number_below index_limit two ≡ Some (right, three)
    → after_mark (codes "]") three ≡ Some rest → Back IsRange spelled_range bytes (Some (left, right)) rest
some_range_back bytes r rest one two three left right b p q s t =
    let low = number_back (drop 2 bytes) left one p in
    let high = number_back two right three s in
    let last : three ≡ codes "]" ++ rest = mark_back (codes "]") three rest t in
    let behind : two ≡ (decimal right ++ codes "]") ++ rest = high.is ∙ ap (λ z. decimal right ++ z) last ∙ sym (append_assoc (decimal right) (codes "]") rest) in
    let middle : one ≡ (codes ":" ++ (decimal right ++ codes "]")) ++ rest = mark_back (codes ":") one two q ∙ ap (λ z. codes ":" ++ z) behind in
    record { ok = (low.ok, high.ok); is = b ∙ ap (λ z. codes " [" ++ z) (low.is ∙ ap (λ z. decimal left ++ z) middle ∙ sym (append_assoc (decimal left) (codes ":" ++ (decimal right ++ codes "]")) rest)) }

range_parts : (bytes : List ℕ) (r : Option (ℕ × ℕ)) (rest : List ℕ) (f : ℕ × List ℕ → Option (Option (ℕ × ℕ) × List ℕ))
    → ((n : ℕ × List ℕ) → f n ≡ (after_mark (codes ":") n.1 >>= (λ colon. number_below index_limit colon >>= (λ m. after_mark (codes "]") m.1 >>= (λ z. Some (Some (n.0, m.0), z)))))) → bytes ≡ codes " [" ++ drop 2 bytes → (number_below index_limit (drop 2 bytes) >>= f) ≡ Some (r, rest) → Back IsRange spelled_range bytes r rest
range_parts bytes r rest f is b h =
    let n = bind_some (number_below index_limit (drop 2 bytes)) f (r, rest) h in
    let c = bind_some (after_mark (codes ":") n.0.1) _ (r, rest) (sym (is n.0) ∙ n.2) in
    let m = bind_some (number_below index_limit c.0) _ (r, rest) c.2 in
    let z = bind_some (after_mark (codes "]") m.0.1) _ (r, rest) m.2 in
    let same = found_same (Some (n.0.0, m.0.0)) r z.0 rest z.2 in
    let found : Back IsRange spelled_range bytes (Some (n.0.0, m.0.0)) z.0 = some_range_back bytes r z.0 n.0.1 c.0 m.0.1 n.0.0 m.0.0 b n.1 c.1 m.1 z.1 in
    subst (λ x. Back IsRange spelled_range bytes x rest) same.0 (subst (λ y. Back IsRange spelled_range bytes (Some (n.0.0, m.0.0)) y) same.1 found)

pub range_back : (bytes : List ℕ) (r : Option (ℕ × ℕ)) (rest : List ℕ) → front_range bytes ≡ Some (r, rest) → Back IsRange spelled_range bytes r rest
unfolding front_range
range_back bytes r rest h =
    choice_told {A = Option (ℕ × ℕ) × List ℕ} (begins_with (codes " [") bytes) _ (Some (None, bytes)) (r, rest) (Back IsRange spelled_range bytes r rest) (λ b e. range_parts bytes r rest _ (λ n. refl) (begins_back (codes " [") bytes b) e) (λ b e.
    let same = found_same None r bytes rest e in
    subst (λ o. Back IsRange spelled_range bytes o rest) same.0 (record { ok = tt; is = same.1 })) h
