-- What marks tell: below the first bit that is driven twice, which bits are driven once.
use Rattle.std.proofs.Common.{arith, ◌≡◌, ◌≢◌, ℕ, zero, suc, ◌+◌, ◌-◌, ◌<◌, ◌≤◌, min, nat_lt, Bool, true, false, cond, List, [], ◌∷◌, ◌++◌, length, get_or, fold, drop, slice_get, refl, sym, ap, ◌∙◌, subst, append_assoc, append-nil}
use Rattle.std.proofs.lemmas.Bool.Decides.{nat_tests}
use Rattle.std.proofs.lemmas.List.{get_or-set_same, get_or-set_other, get_or-replicate, length-replicate, length-set}
use Rattle.std.proofs.lemmas.List.Sums.{sum_by-append, sum_by-cons, fold-append}
use Rattle.std.specs.Prelude.{Some, None, nat_eq, count_by, find, slice_set}
use Rattle.std.specs.List.{range_with_len}
use Rattle.bb_base.specs.Variables.{Entry, is_input, range_width}
use Rattle.bb_drive.specs.Nets.{bits_from}
use Rattle.bb_targets.specs.Marks.{Marked, unmarked, with_mark}

-- counts --------------------------------------------------------------------

abbrev pub hits : ℕ → List ℕ → ℕ
hits b xs = count_by (nat_eq b) xs

pub hits_head : (b x : ℕ) (xs : List ℕ) → hits b (x ∷ xs) ≡ cond (nat_eq b x) 1 0 + hits b xs
hits_head b x xs = sum_by-cons (λ m. cond (nat_eq b m) 1 0) x xs

pub hits_join : (b : ℕ) (xs ys : List ℕ) → hits b (xs ++ ys) ≡ hits b xs + hits b ys
hits_join b xs ys = sum_by-append (λ m. cond (nat_eq b m) 1 0) xs ys

hits_more : (b x : ℕ) (xs : List ℕ) → hits b (xs ++ x ∷ []) ≡ hits b xs + cond (nat_eq b x) 1 0
hits_more b x xs = omega (arith, hits_join b xs (x ∷ []), hits_head b x [])

-- spans -----------------------------------------------------------------------

-- bits from the first that is driven twice on change nothing
pub past_least : (m : Marked) (first n : ℕ) → m.least ≤ first → fold with_mark m (range_with_len first n) ≡ m
past_least m first zero past = refl
past_least m first (suc n) past =
    let test : nat_lt first m.least ≡ false = grind (arith, nat_tests, past) in
    let same : with_mark m first ≡ m = ap (λ t. cond t (cond (get_or m.marks first false) (record { marks = m.marks; least = first }) (record { marks = slice_set m.marks first true; least = m.least })) m) test in
    ap (λ k. fold with_mark k (range_with_len (first + 1) n)) same ∙ past_least m (first + 1) n (omega (arith, past))

-- the first bit of a span and those behind it
pub span_next : (end first : ℕ) → first < end → range_with_len first (end - first) ≡ first ∷ range_with_len (first + 1) (end - (first + 1))
span_next end first less = let e : end - first ≡ suc (end - (first + 1)) = omega (arith, less) in ap (range_with_len first) e

-- a bit without a mark gets one
pub mark_next : (marks : List Bool) (least first end : ℕ) → first < end → first < least → get_or marks first false ≡ false
    → fold with_mark (record { marks = marks; least = least }) (range_with_len first (end - first))
    ≡ fold with_mark (record { marks = slice_set marks first true; least = least }) (range_with_len (first + 1) (end - (first + 1)))
mark_next marks least first end less low free =
    let test : nat_lt first least ≡ true = grind (arith, nat_tests, low) in
    ap (fold with_mark (record { marks = marks; least = least })) (span_next end first less)
    ∙ (λ i. fold with_mark (cond (test i) (cond (free i) (record { marks = marks; least = first }) (record { marks = slice_set marks first true; least = least })) (record { marks = marks; least = least })) (range_with_len (first + 1) (end - (first + 1))))

-- and the walk ends at a bit with one
pub mark_ends : (marks : List Bool) (least first end : ℕ) → first < end → first < least → get_or marks first false ≡ true
    → fold with_mark (record { marks = marks; least = least }) (range_with_len first (end - first)) ≡ record { marks = marks; least = first }
mark_ends marks least first end less low marked =
    let test : nat_lt first least ≡ true = grind (arith, nat_tests, low) in
    ap (fold with_mark (record { marks = marks; least = least })) (span_next end first less)
    ∙ ((λ i. fold with_mark (cond (test i) (cond (marked i) (record { marks = marks; least = first }) (record { marks = slice_set marks first true; least = least })) (record { marks = marks; least = least })) (range_with_len (first + 1) (end - (first + 1))))
    ∙ past_least (record { marks = marks; least = first }) (first + 1) (end - (first + 1)) (omega arith))

-- or where it is past its end, or past that bit
pub walk_done : (m : Marked) (first end : ℕ) → min end m.least ≤ first → fold with_mark m (range_with_len first (end - first)) ≡ m
walk_done m first end done = by (nat_lt first end) refl
  where
    by : (t : Bool) → nat_lt first end ≡ t → fold with_mark m (range_with_len first (end - first)) ≡ m
    by true e =
        let less : first < end = grind (arith, nat_tests, e) in
        past_least m first (end - first) (omega (arith, less, done))
    by false e =
        let past : end ≤ first = grind (arith, nat_tests, e) in
        let none : end - first ≡ 0 = omega (arith, past) in
        ap (λ n. fold with_mark m (range_with_len first n)) none

-- the bits of the inputs from a variable on
bits_next : (es : List Entry) (i first : ℕ) (v : Entry) → slice_get es i ≡ Some v
    → bits_from is_input first (drop i es) ≡ cond (is_input v.1.role) (range_with_len first (range_width v.1.range)) [] ++ bits_from is_input (first + range_width v.1.range) (drop (i + 1) es)
bits_next [] i first v h = cc
bits_next (e ∷ es) zero first v h =
    let same : e ≡ v = cc h in
    ap (λ (x : Entry). cond (is_input x.1.role) (range_with_len first (range_width x.1.range)) [] ++ bits_from is_input (first + range_width x.1.range) es) same
bits_next (e ∷ es) (suc i) first v h =
    let k : suc i + 1 ≡ suc (i + 1) = omega arith in
    bits_next es i first v h
    ∙ ap (λ n. cond (is_input v.1.role) (range_with_len first (range_width v.1.range)) [] ++ bits_from is_input (first + range_width v.1.range) (drop n (e ∷ es))) (sym k)

pub inputs_next : (m new : Marked) (es : List Entry) (i first width : ℕ) (v : Entry) (b : Bool) → slice_get es i ≡ Some v → width ≡ range_width v.1.range → is_input v.1.role ≡ b
    → new ≡ cond b (fold with_mark m (range_with_len first (first + width - first))) m
    → fold with_mark new (bits_from is_input (first + width) (drop (i + 1) es)) ≡ fold with_mark m (bits_from is_input first (drop i es))
inputs_next m new es i first width v b at wide is made = by b is made
  where
    rest : List ℕ
    rest = bits_from is_input (first + range_width v.1.range) (drop (i + 1) es)

    next : (t : Bool) → is_input v.1.role ≡ t → bits_from is_input first (drop i es) ≡ cond t (range_with_len first (range_width v.1.range)) [] ++ rest
    next t e = bits_next es i first v at ∙ ap (λ s. cond s (range_with_len first (range_width v.1.range)) [] ++ bits_from is_input (first + range_width v.1.range) (drop (i + 1) es)) e

    moved : fold with_mark new (bits_from is_input (first + width) (drop (i + 1) es)) ≡ fold with_mark new rest
    moved = ap (λ n. fold with_mark new (bits_from is_input (first + n) (drop (i + 1) es))) wide

    by : (t : Bool) → is_input v.1.role ≡ t → new ≡ cond t (fold with_mark m (range_with_len first (first + width - first))) m
        → fold with_mark new (bits_from is_input (first + width) (drop (i + 1) es)) ≡ fold with_mark m (bits_from is_input first (drop i es))
    by true e h =
        let size : first + width - first ≡ range_width v.1.range = omega (arith, wide) in
        let marked : new ≡ fold with_mark m (range_with_len first (range_width v.1.range)) = h ∙ ap (λ n. fold with_mark m (range_with_len first n)) size in
        moved ∙ (ap (λ z. fold with_mark z rest) marked ∙ (sym (fold-append with_mark m (range_with_len first (range_width v.1.range)) rest) ∙ ap (fold with_mark m) (sym (next true e))))
    by false e h = moved ∙ (ap (λ z. fold with_mark z rest) h ∙ ap (fold with_mark m) (sym (next false e)))

-- meaning ---------------------------------------------------------------------

-- the marks are those of these bits
record AreMarked (count : ℕ) (bits : List ℕ) (m : Marked) : Type 0 where
  long : length m.marks ≡ count
  low : m.least ≤ count
  once : (b : ℕ) → b < m.least → hits b bits ≡ cond (get_or m.marks b false) 1 0
  twice : m.least < count → 1 < hits m.least bits

none_marked : (count : ℕ) → AreMarked count [] (unmarked count)
none_marked count = record {
  long = length-replicate count false;
  low = omega arith;
  once = λ b low. ap {B = ℕ} (λ (t : Bool). cond t 1 0) (sym (get_or-replicate count b false false low));
  twice = λ less. absurd (omega (arith, less));
}

one_more : (count : ℕ) (bits : List ℕ) (m : Marked) (bit : ℕ) → AreMarked count bits m → AreMarked count (bits ++ bit ∷ []) (with_mark m bit)
one_more count bits m bit is = by (nat_lt bit m.least) (get_or m.marks bit false) refl refl
  where
    by : (s t : Bool) → nat_lt bit m.least ≡ s → get_or m.marks bit false ≡ t
        → AreMarked count (bits ++ bit ∷ []) (cond s (cond t (record { marks = m.marks; least = bit }) (record { marks = slice_set m.marks bit true; least = m.least })) m)
    by false t e f = record {
      long = is.long;
      low = is.low;
      once = λ b less.
          let other : nat_eq b bit ≡ false = grind (arith, nat_tests, e, less) in
          omega (arith, hits_more b bit bits, ap {B = ℕ} (λ (x : Bool). cond x 1 0) other, is.once b less);
      twice = λ less. omega (arith, hits_more m.least bit bits, is.twice less);
    }
    by true true e f =
        let low : bit < m.least = grind (arith, nat_tests, e) in
        let same : nat_eq bit bit ≡ true = grind (arith, nat_tests) in
        record {
          long = is.long;
          low = omega (arith, low, is.low);
          once = λ b less.
              let other : nat_eq b bit ≡ false = grind (arith, nat_tests, less) in
              omega (arith, hits_more b bit bits, ap {B = ℕ} (λ (x : Bool). cond x 1 0) other, is.once b (omega (arith, less, low)));
          twice = λ less. omega (arith, hits_more bit bit bits, ap {B = ℕ} (λ (x : Bool). cond x 1 0) same, is.once bit low, ap {B = ℕ} (λ (x : Bool). cond x 1 0) f);
        }
    by true false e f =
        let low : bit < m.least = grind (arith, nat_tests, e) in
        record {
          long = length-set m.marks bit true ∙ is.long;
          low = is.low;
          once = λ b less. at b less (nat_eq b bit) refl;
          twice = λ less. omega (arith, hits_more m.least bit bits, is.twice less);
        }
      where
        at : (b : ℕ) → b < m.least → (x : Bool) → nat_eq b bit ≡ x → hits b (bits ++ bit ∷ []) ≡ cond (get_or (slice_set m.marks bit true) b false) 1 0
        at b less true k =
            let same : bit ≡ b = grind (arith, nat_tests, k) in
            let within : bit < length m.marks = omega (arith, same, less, is.low, is.long) in
            let now : get_or (slice_set m.marks bit true) b false ≡ true = ap (λ z. get_or (slice_set m.marks bit true) z false) (sym same) ∙ get_or-set_same m.marks bit true false within in
            let before : get_or m.marks b false ≡ false = ap (λ z. get_or m.marks z false) (sym same) ∙ f in
            omega (arith, hits_more b bit bits, ap {B = ℕ} (λ (x : Bool). cond x 1 0) k, is.once b less, ap {B = ℕ} (λ (x : Bool). cond x 1 0) before, ap {B = ℕ} (λ (x : Bool). cond x 1 0) now)
        at b less false k =
            let other : b ≢ bit = grind (arith, nat_tests, k) in
            let now : get_or (slice_set m.marks bit true) b false ≡ get_or m.marks b false = get_or-set_other m.marks bit b true false other in
            omega (arith, hits_more b bit bits, ap {B = ℕ} (λ (x : Bool). cond x 1 0) k, is.once b less, ap {B = ℕ} (λ (x : Bool). cond x 1 0) now)

all_marked : (count : ℕ) (bits more : List ℕ) (m : Marked) → AreMarked count bits m → AreMarked count (bits ++ more) (fold with_mark m more)
all_marked count bits [] m is = subst (λ z. AreMarked count z m) (sym (append-nil bits)) is
all_marked count bits (x ∷ more) m is =
    subst (λ z. AreMarked count z (fold with_mark (with_mark m x) more)) (append_assoc bits (x ∷ []) more) (all_marked count (bits ++ x ∷ []) more (with_mark m x) (one_more count bits m x is))

-- a search along numbers
find_first : (p : ℕ → Bool) (from n least : ℕ) → from ≤ least → least ≤ from + n → ((b : ℕ) → b < least → p b ≡ false) → (least < from + n → p least ≡ true)
    → find p (range_with_len from n) ≡ cond (nat_lt least (from + n)) (Some least) None
find_first p from zero least low high none some =
    let test : nat_lt least (from + 0) ≡ false = grind (arith, nat_tests, low) in
    ap (λ t. cond t (Some least) None) (sym test)
find_first p from (suc n) least low high none some = by (nat_lt from least) refl (λ past. find_first p (from + 1) n least (omega (arith, past)) (omega (arith, high)) none (λ less. some (omega (arith, less))))
  where
    by : (t : Bool) → nat_lt from least ≡ t → (from < least → find p (range_with_len (from + 1) n) ≡ cond (nat_lt least (from + 1 + n)) (Some least) None)
        → find p (range_with_len from (suc n)) ≡ cond (nat_lt least (from + suc n)) (Some least) None
    by true e rest =
        let past : from < least = grind (arith, nat_tests, e) in
        let sums : from + 1 + n ≡ from + suc n = omega arith in
        ap (λ t. cond t (Some from) (find p (range_with_len (from + 1) n))) (none from past) ∙ (rest past ∙ ap (λ k. cond (nat_lt least k) (Some least) None) sums)
    by false e rest =
        let same : least ≡ from = grind (arith, nat_tests, e, low) in
        let test : nat_lt least (from + suc n) ≡ true = grind (arith, nat_tests, same) in
        let here : p from ≡ true = ap p (sym same) ∙ some (omega (arith, same)) in
        ap (λ t. cond t (Some from) (find p (range_with_len (from + 1) n))) here ∙ (ap (λ z. Some z) (sym same) ∙ ap (λ t. cond t (Some least) None) (sym test))

-- the first bit that is driven twice, by the marks of all
pub twice_found : (count : ℕ) (bits : List ℕ) (m : Marked) → m ≡ fold with_mark (unmarked count) bits
    → cond (nat_lt m.least (length m.marks)) (Some m.least) None ≡ find (λ b. nat_lt 1 (count_by (nat_eq b) bits)) (range_with_len 0 count)
twice_found count bits m same =
    let is : AreMarked count bits m = subst (AreMarked count bits) (sym same) (all_marked count [] bits (unmarked count) (none_marked count)) in
    let few : (b : ℕ) → b < m.least → nat_lt 1 (count_by (nat_eq b) bits) ≡ false = λ b less. one (get_or m.marks b false) (hits b bits) (is.once b less) in
    let more : m.least < count → nat_lt 1 (count_by (nat_eq m.least) bits) ≡ true = λ less. let two = is.twice less in grind (arith, nat_tests, two) in
    let whole : length m.marks ≡ 0 + count = omega (arith, is.long) in
    ap (λ k. cond (nat_lt m.least k) (Some m.least) None) whole
    ∙ sym (find_first (λ b. nat_lt 1 (count_by (nat_eq b) bits)) 0 count m.least (omega arith) (omega (arith, is.low)) few (λ less. more (omega (arith, less))))
  where
    one : (t : Bool) (n : ℕ) → n ≡ cond t 1 0 → nat_lt 1 n ≡ false
    one true n e = grind (arith, nat_tests, e)
    one false n e = grind (arith, nat_tests, e)
