-- What follows something that was read is no longer than it.
use Rattle.std.proofs.Common.{◌≡◌, ℕ, ◌≤◌, List, length, drop, codes, Option, Some, None, Bool, true, false, refl, sym, ap, ◌∙◌, arith, length-drop, if◌then◌else◌, nat_lt}
use Rattle.std.specs.List.{prefix_len}
use Rattle.std.specs.Char.{is_ascii_digit}
use Rattle.bb_base.specs.Variables.{Bit}
use Rattle.bb_base.specs.Words.{is_word_byte}
use Rattle.bb_spell.specs.Spelling.{stands_plain}
use Rattle.bb_spell.specs.Front.{◌>>=◌, begins_with, after_mark, word_of, after_word, graphic_of, after_graphic, is_name, plain_at, escaped_at, front_name, value_after, index_limit, digits_of, after_digits, is_numeral, number_below, front_index, front_bit}
use Rattle.bb_base.specs.Name.{is_name_byte}

pub bind_some : {A B : Type 0} (r : Option A) (f : A → Option B) (y : B) → (r >>= f) ≡ Some y → (x : A) × (r ≡ Some x) × (f x ≡ Some y)
bind_some None f y h = cc
bind_some (Some x) f y h = (x, refl, h)

-- from an equation of two found pairs to their parts
pub found_same : {A B : Type 0} (a c : A) (b d : B) → ◌≡◌ {A = Option (A × B)} (Some (a, b)) (Some (c, d)) → (a ≡ c) × (b ≡ d)
found_same {A} {B} a c b d h =
    let pair : ◌≡◌ {A = A × B} (a, b) (c, d) = cc in
    (ap (λ p. p.0) pair, ap (λ p. p.1) pair)

drop_le : (n : ℕ) (bytes rest : List ℕ) → drop n bytes ≡ rest → length rest ≤ length bytes
drop_le n bytes rest h = omega (arith, length-drop n bytes, ap length h)

pub mark_le : (mark bytes rest : List ℕ) → after_mark mark bytes ≡ Some rest → length rest ≤ length bytes
mark_le mark bytes rest h = go (begins_with mark bytes) h
  where
    go : (b : Bool) → (if b then Some (drop (length mark) bytes) else None) ≡ Some rest → length rest ≤ length bytes
    go true h = let e : drop (length mark) bytes ≡ rest = cc in drop_le (length mark) bytes rest e
    go false h = cc

pub guard_some : {A : Type 0} (b : Bool) (o : Option A) (y : A) → (if b then o else None) ≡ Some y → (b ≡ true) × (o ≡ Some y)
guard_some true o y h = (refl, h)
guard_some false o y h = cc

pub unless_some : {A : Type 0} (b : Bool) (o : Option A) (y : A) → (if b then None else o) ≡ Some y → (b ≡ false) × (o ≡ Some y)
unless_some true o y h = cc
unless_some false o y h = (refl, h)

pub choice_some : {A : Type 0} (b : Bool) (o p : Option A) (y : A) (P : Type 0) → (o ≡ Some y → P) → (p ≡ Some y → P) → (if b then o else p) ≡ Some y → P
choice_some true o p y P f g h = f h
choice_some false o p y P f g h = g h

plain_le : (bytes name rest : List ℕ) → plain_at bytes ≡ Some (name, rest) → length rest ≤ length bytes
plain_le bytes name rest h =
    let one = guard_some {A = List ℕ × List ℕ} (is_name (word_of bytes)) _ (name, rest) h in
    let two = guard_some {A = List ℕ × List ℕ} (stands_plain (word_of bytes)) _ (name, rest) one.1 in
    drop_le (prefix_len is_word_byte bytes) bytes rest (found_same (word_of bytes) name (after_word bytes) rest two.1).1

escaped_le : (bytes name rest : List ℕ) → escaped_at bytes ≡ Some (name, rest) → length rest ≤ length bytes
escaped_le bytes name rest h =
    let one = guard_some {A = List ℕ × List ℕ} (is_name (graphic_of bytes)) _ (name, rest) h in
    let two = unless_some {A = List ℕ × List ℕ} (stands_plain (graphic_of bytes)) _ (name, rest) one.1 in
    let m = bind_some (after_mark (codes " ") (after_graphic bytes)) _ (name, rest) two.1 in
    let same = (found_same (graphic_of bytes) name m.0 rest m.2).1 in
    omega (arith, mark_le (codes " ") (after_graphic bytes) m.0 m.1, length-drop (prefix_len is_name_byte bytes) bytes, ap length same)

pub name_le : (bytes name rest : List ℕ) → front_name bytes ≡ Some (name, rest) → length rest ≤ length bytes
unfolding front_name
name_le bytes name rest h =
    choice_some {A = List ℕ × List ℕ} (begins_with (codes "\\") bytes) (escaped_at (drop 1 bytes)) (plain_at bytes) (name, rest) (length rest ≤ length bytes)
    (λ e. omega (arith, escaped_le (drop 1 bytes) name rest e, length-drop 1 bytes)) (plain_le bytes name rest) h

number_le : (limit : ℕ) (bytes : List ℕ) (n : ℕ) (rest : List ℕ) → number_below limit bytes ≡ Some (n, rest) → length rest ≤ length bytes
unfolding number_below
number_le limit bytes n rest h =
    let one = guard_some {A = ℕ × List ℕ} (is_numeral (digits_of bytes)) _ (n, rest) h in
    let two = guard_some {A = ℕ × List ℕ} (nat_lt (value_after 0 (digits_of bytes)) limit) _ (n, rest) one.1 in
    drop_le (prefix_len is_ascii_digit bytes) bytes rest (found_same (value_after 0 (digits_of bytes)) n (after_digits bytes) rest two.1).1

some_index : (bytes : List ℕ) (i : Option ℕ) (rest : List ℕ) (f : ℕ × List ℕ → Option (Option ℕ × List ℕ)) → ((n : ℕ × List ℕ) → f n ≡ (after_mark (codes "]") n.1 >>= (λ r. Some (Some n.0, r))))
    → (number_below index_limit (drop 1 bytes) >>= f) ≡ Some (i, rest) → length rest ≤ length bytes
some_index bytes i rest f is h =
    let n = bind_some (number_below index_limit (drop 1 bytes)) f (i, rest) h in
    let r = bind_some (after_mark (codes "]") n.0.1) _ (i, rest) (sym (is n.0) ∙ n.2) in
    let same = (found_same (Some n.0.0) i r.0 rest r.2).1 in
    omega (arith, number_le index_limit (drop 1 bytes) n.0.0 n.0.1 n.1, mark_le (codes "]") n.0.1 r.0 r.1, length-drop 1 bytes, ap length same)

index_le : (bytes : List ℕ) (i : Option ℕ) (rest : List ℕ) → front_index bytes ≡ Some (i, rest) → length rest ≤ length bytes
unfolding front_index
index_le bytes i rest h =
    choice_some {A = Option ℕ × List ℕ} (begins_with (codes "[") bytes) _ (Some (None, bytes)) (i, rest) (length rest ≤ length bytes)
    (λ e. some_index bytes i rest _ (λ n. refl) e) (λ e. omega (arith, ap length (found_same None i bytes rest e).1)) h

pub bit_le : (bytes : List ℕ) (b : Bit) (rest : List ℕ) → front_bit bytes ≡ Some (b, rest) → length rest ≤ length bytes
unfolding front_bit
bit_le bytes b rest h =
    let n = bind_some (front_name bytes) _ (b, rest) h in
    let i = bind_some (front_index n.0.1) _ (b, rest) n.2 in
    let same = (found_same (record { name = n.0.0; index = i.0.0 }) b i.0.1 rest i.2).1 in
    omega (arith, name_le bytes n.0.0 n.0.1 n.1, index_le n.0.1 i.0.0 i.0.1 i.1, ap length same)
