-- Lists of numbers: which stand there, how often, and where.
use Rattle.std.proofs.Common.{◌≡◌, ◌≢◌, ℕ, ◌+◌, ◌<◌, ◌≤◌, zero, suc, List, [], ◌∷◌, length, cond, Bool, true, false, not, ◌||◌, nat_eq, get_or, refl, sym, ap, ◌∙◌, arith, subst}
use Rattle.std.specs.Prelude.{filter, count_by}
use Rattle.std.specs.List.{AllByRecursion, range_with_len, position_or_len}
use Rattle.std.proofs.lemmas.Bool.Decides.{nat_tests}
use Rattle.std.proofs.lemmas.List.Elements.{All-from_recursion}
use Rattle.bb_base.specs.Net.{times}
use Rattle.bb_base.proofs.TimesLemmas.{times_head}
use Rattle.bb_drive.specs.Nets.{has_bit}
use Rattle.bb_spell.proofs.Rising.{Rising}
use Rattle.bb_print.proofs.Sieves.{or_left, or_right, or_parts, weaken, filter_all_of}

pub eq_same : (a b : ℕ) → nat_eq a b ≡ true → a ≡ b
eq_same a b e = grind (arith, nat_tests)

pub eq_itself : (a : ℕ) → nat_eq a a ≡ true
eq_itself a = grind (arith, nat_tests)

pub eq_other : (a b : ℕ) → a ≢ b → nat_eq a b ≡ false
eq_other a b h = go (nat_eq a b) refl
  where
    go : (t : Bool) → nat_eq a b ≡ t → t ≡ false
    go false e = refl
    go true e = absurd (h (eq_same a b e))

pub nat_eq_turn : (a b : ℕ) → nat_eq a b ≡ nat_eq b a
nat_eq_turn a b = grind (arith, nat_tests)

abbrev pub one_if : Bool → ℕ
one_if t = cond t 1 0

pub count_is : (b : ℕ) (xs : List ℕ) → count_by (nat_eq b) xs ≡ times b xs
count_is b xs = ap (λ (f : ℕ → Bool). count_by f xs) (λ i m. nat_eq_turn b m i)

-- a bit of a list has what all of them have
pub has_all : (P : ℕ → Type 0) (xs : List ℕ) (b : ℕ) → AllByRecursion P xs → has_bit xs b ≡ true → P b
has_all P [] b all h = cc
has_all P (x ∷ xs) b all h = or_parts (nat_eq b x) (has_bit xs b) h (λ e. subst P (same e) all.0) (λ e. has_all P xs b all.1 e)
  where
    same : nat_eq b x ≡ true → x ≡ b
    same e = grind (arith, nat_tests)

pub has_none : (xs : List ℕ) (b : ℕ) → AllByRecursion (λ x. x ≢ b) xs → has_bit xs b ≡ false
has_none [] b h = refl
has_none (x ∷ xs) b h = go (nat_eq b x) refl (has_none xs b h.1)
  where
    go : (t : Bool) → nat_eq b x ≡ t → has_bit xs b ≡ false → (nat_eq b x || has_bit xs b) ≡ false
    go true e rest = absurd (h.0 (grind (arith, nat_tests)))
    go false e rest = rw e rest

pub has_times : (b : ℕ) (xs : List ℕ) → 0 < times b xs → has_bit xs b ≡ true
has_times b [] h = absurd (omega arith)
has_times b (x ∷ xs) h = go (nat_eq b x) refl (times_head b x xs) (λ some. has_times b xs some)
  where
    go : (t : Bool) → nat_eq b x ≡ t → times b (x ∷ xs) ≡ cond (nat_eq x b) 1 0 + times b xs → (0 < times b xs → has_bit xs b ≡ true) → (nat_eq b x || has_bit xs b) ≡ true
    go true e head rest = rw e refl
    go false e head rest =
        let turned : nat_eq x b ≡ false = nat_eq_turn x b ∙ e in
        let some : 0 < times b xs = omega (arith, h, head, ap one_if turned) in
        rw e (rest some)

pub has_at : (xs : List ℕ) (i d : ℕ) → i < length xs → has_bit xs (get_or xs i d) ≡ true
has_at [] i d l = absurd (omega arith)
has_at (x ∷ xs) zero d l = ap (λ z. z || has_bit xs x) (eq_itself x)
has_at (x ∷ xs) (suc i) d l =
    let rest : has_bit xs (get_or xs i d) ≡ true = has_at xs i d (omega arith) in
    go (nat_eq (get_or xs i d) x) rest
  where
    go : (t : Bool) → has_bit xs (get_or xs i d) ≡ true → (t || has_bit xs (get_or xs i d)) ≡ true
    go true r = refl
    go false r = r

pub filter_has : (p : ℕ → Bool) (xs : List ℕ) (b : ℕ) → p b ≡ true → has_bit xs b ≡ true → has_bit (filter p xs) b ≡ true
filter_has p [] b e h = h
filter_has p (x ∷ xs) b e h = go (nat_eq b x) (p x) refl refl h (filter_has p xs b e)
  where
    go : (t u : Bool) → nat_eq b x ≡ t → p x ≡ u → (t || has_bit xs b) ≡ true → (has_bit xs b ≡ true → has_bit (filter p xs) b ≡ true) → has_bit (filter p (x ∷ xs)) b ≡ true
    go true true f k h rest =
        let kept : filter p (x ∷ xs) ≡ x ∷ filter p xs = rw k refl in
        ap (λ z. has_bit z b) kept ∙ ap (λ z. z || has_bit (filter p xs) b) f
    go true false f k h rest =
        let same : b ≡ x = grind (arith, nat_tests) in
        cc (sym e ∙ ap p same ∙ k)
    go false true f k h rest =
        let kept : filter p (x ∷ xs) ≡ x ∷ filter p xs = rw k refl in
        ap (λ z. has_bit z b) kept ∙ or_right (nat_eq b x) (has_bit (filter p xs) b) (rest h)
    go false false f k h rest =
        let kept : filter p (x ∷ xs) ≡ filter p xs = rw k refl in
        ap (λ z. has_bit z b) kept ∙ rest h

pub times_other : (b : ℕ) (xs : List ℕ) → AllByRecursion (λ x. x ≢ b) xs → times b xs ≡ 0
times_other b [] h = refl
times_other b (x ∷ xs) h =
    let other : nat_eq x b ≡ false = go (nat_eq x b) refl in
    times_head b x xs ∙ (λ i. cond (other i) 1 0 + times_other b xs h.1 i)
  where
    go : (t : Bool) → nat_eq x b ≡ t → t ≡ false
    go false e = refl
    go true e = absurd (h.0 (grind (arith, nat_tests)))

pub times_but : (b k : ℕ) (xs : List ℕ) → nat_eq k b ≡ false → times b xs ≡ times b (filter (λ n. not (nat_eq k n)) xs)
times_but b k [] h = refl
times_but b k (x ∷ xs) h = go (nat_eq k x) refl (times_but b k xs h)
  where
    go : (t : Bool) → nat_eq k x ≡ t → times b xs ≡ times b (filter (λ n. not (nat_eq k n)) xs) → times b (x ∷ xs) ≡ times b (filter (λ n. not (nat_eq k n)) (x ∷ xs))
    go true e rest =
        let other : nat_eq x b ≡ false = grind (arith, nat_tests) in
        let none : one_if (nat_eq x b) ≡ 0 = ap one_if other in
        let head = times_head b x xs in
        let same : times b (x ∷ xs) ≡ times b (filter (λ n. not (nat_eq k n)) xs) = omega (arith, none, head, rest) in
        rw e same
    go false e rest = rw e (times_head b x xs ∙ ap (λ z. one_if (nat_eq x b) + z) rest ∙ sym (times_head b x (filter (λ n. not (nat_eq k n)) xs)))

pub all_but : (P : ℕ → Type 0) (k : ℕ) (xs : List ℕ) → P k → AllByRecursion P (filter (λ n. not (nat_eq k n)) xs) → AllByRecursion P xs
all_but P k [] h all = tt
all_but P k (x ∷ xs) h all = go (nat_eq k x) refl all (all_but P k xs h)
  where
    go : (t : Bool) → nat_eq k x ≡ t → AllByRecursion P (cond (not t) (x ∷ filter (λ n. not (nat_eq k n)) xs) (filter (λ n. not (nat_eq k n)) xs)) → (AllByRecursion P (filter (λ n. not (nat_eq k n)) xs) → AllByRecursion P xs) → AllByRecursion P (x ∷ xs)
    go true e rest again =
        let same : k ≡ x = grind (arith, nat_tests) in
        (subst P same h, again rest)
    go false e rest again = (rest.0, again rest.1)

pub range_has : (from n m : ℕ) → from ≤ m → m < from + n → has_bit (range_with_len from n) m ≡ true
range_has from zero m a b = absurd (omega arith)
range_has from (suc n) m a b = go (nat_eq m from) refl (λ less. range_has (from + 1) n m less (omega arith))
  where
    go : (t : Bool) → nat_eq m from ≡ t → (from + 1 ≤ m → has_bit (range_with_len (from + 1) n) m ≡ true) → has_bit (range_with_len from (suc n)) m ≡ true
    go true t rest = or_left (nat_eq m from) (has_bit (range_with_len (from + 1) n) m) t
    go false t rest = or_right (nat_eq m from) (has_bit (range_with_len (from + 1) n) m) (rest (grind (arith, nat_tests)))

pub range_all : (n m : ℕ) → m < n → has_bit (range_with_len 0 n) m ≡ true
range_all n m h = range_has 0 n m (omega arith) (omega arith)

-- and stands there once
pub times_past_range : (b from n : ℕ) → from + n ≤ b → times b (range_with_len from n) ≡ 0
times_past_range b from zero h = refl
times_past_range b from (suc n) h =
    let rest = times_past_range b (from + 1) n (omega arith) in
    let one = times_head b from (range_with_len (from + 1) n) in
    grind (arith, nat_tests)

pub filter_rises : (p : ℕ → Bool) (xs : List ℕ) → Rising xs → Rising (filter p xs)
filter_rises p [] h = tt
filter_rises p (x ∷ xs) h = go (p x) refl (filter_rises p xs h.1)
  where
    go : (b : Bool) → p x ≡ b → Rising (filter p xs) → Rising (filter p (x ∷ xs))
    go true e rest = rw e (filter_all_of (λ m. x < m) p xs h.0, rest)
    go false e rest = rw e rest

pub place_within : (b : ℕ) (xs : List ℕ) → has_bit xs b ≡ true → position_or_len (nat_eq b) xs < length xs
place_within b [] h = cc
place_within b (x ∷ xs) h = go (nat_eq b x) refl h (place_within b xs)
  where
    go : (t : Bool) → nat_eq b x ≡ t → (t || has_bit xs b) ≡ true → (has_bit xs b ≡ true → position_or_len (nat_eq b) xs < length xs) → position_or_len (nat_eq b) (x ∷ xs) < length (x ∷ xs)
    go true e h rest =
        let first : position_or_len (nat_eq b) (x ∷ xs) ≡ 0 = rw e refl in
        omega (arith, first)
    go false e h rest =
        let next : position_or_len (nat_eq b) (x ∷ xs) ≡ 1 + position_or_len (nat_eq b) xs = rw e refl in
        let less = rest h in
        omega (arith, next, less)

-- a number of a rising list stands in one place
pub place_again : (xs : List ℕ) (i d : ℕ) → Rising xs → i < length xs → position_or_len (nat_eq (get_or xs i d)) xs ≡ i
place_again [] i d h l = absurd (omega arith)
place_again (x ∷ xs) zero d h l =
    let e : nat_eq x x ≡ true = eq_itself x in
    rw e refl
place_again (x ∷ xs) (suc i) d h l =
    let within : i < length xs = omega arith in
    let above : x < get_or xs i d = All-from_recursion (λ m. x < m) xs h.0 i d within in
    let e : nat_eq (get_or xs i d) x ≡ false = grind (arith, nat_tests) in
    let rest = place_again xs i d h.1 within in
    rw e (omega (arith, rest))

-- rising lists of the same numbers are one
pub rising_same : (xs ys : List ℕ) → Rising xs → Rising ys → ((b : ℕ) → has_bit xs b ≡ true → has_bit ys b ≡ true) → ((b : ℕ) → has_bit ys b ≡ true → has_bit xs b ≡ true) → xs ≡ ys
rising_same [] [] h k f g = refl
rising_same [] (y ∷ ys) h k f g = cc (g y (head y ys))
  where
    head : (x : ℕ) (xs : List ℕ) → has_bit (x ∷ xs) x ≡ true
    head x xs = ap (λ z. z || has_bit xs x) (eq_itself x)
rising_same (x ∷ xs) [] h k f g = cc (f x (head x xs))
  where
    head : (x : ℕ) (xs : List ℕ) → has_bit (x ∷ xs) x ≡ true
    head x xs = ap (λ z. z || has_bit xs x) (eq_itself x)
rising_same (x ∷ xs) (y ∷ ys) h k f g =
    let low : y ≤ x = least y ys x k.0 (f x (head x xs)) in
    let high : x ≤ y = least x xs y h.0 (g y (head y ys)) in
    let same : x ≡ y = omega arith in
    (λ i. same i ∷ rising_same xs ys h.1 k.1 (λ b t. drop_head y ys b (apart x xs y same b h.0 t) (f b (more x xs b t))) (λ b t. drop_head x xs b (apart y ys x (sym same) b k.0 t) (g b (more y ys b t))) i)
  where
    head : (x : ℕ) (xs : List ℕ) → has_bit (x ∷ xs) x ≡ true
    head x xs = ap (λ z. z || has_bit xs x) (eq_itself x)

    least : (y : ℕ) (ys : List ℕ) (b : ℕ) → AllByRecursion (λ m. y < m) ys → has_bit (y ∷ ys) b ≡ true → y ≤ b
    least y ys b all t = has_all (λ m. y ≤ m) (y ∷ ys) b (omega arith, weaken (λ m. y < m) (λ m. y ≤ m) (λ m l. omega arith) ys all) t

    more : (x : ℕ) (xs : List ℕ) (b : ℕ) → has_bit xs b ≡ true → has_bit (x ∷ xs) b ≡ true
    more x xs b t = go (nat_eq b x)
      where
        go : (u : Bool) → (u || has_bit xs b) ≡ true
        go true = refl
        go false = t

    apart : (x : ℕ) (xs : List ℕ) (y : ℕ) → x ≡ y → (b : ℕ) → AllByRecursion (λ m. x < m) xs → has_bit xs b ≡ true → nat_eq b y ≡ false
    apart x xs y same b all t =
        let above : x < b = has_all (λ m. x < m) xs b all t in
        grind (arith, nat_tests)

    drop_head : (y : ℕ) (ys : List ℕ) (b : ℕ) → nat_eq b y ≡ false → has_bit (y ∷ ys) b ≡ true → has_bit ys b ≡ true
    drop_head y ys b e t = ap (λ z. z || has_bit ys b) (sym e) ∙ t
