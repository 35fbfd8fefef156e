-- the choice of columns: there is one at most, it is the same at each degree at which it fits, and it is independent on each segment
use Rattle.std.proofs.Common.{◌≡◌, ℕ, ◌+◌, ◌<◌, ◌≤◌, ◌^◌, zero, suc, List, [], ◌∷◌, ◌++◌, length, map, take, get_or, Bool, true, false, cond, refl, sym, ap, ◌∙◌, subst, arith, ◌⊎◌, inl, inr, ⊎_elim, Option, Some, None}
use Rattle.std.specs.Option.{MatchOption}
use Rattle.std.specs.List.{AllByRecursion, EachIndex}
use Rattle.std.proofs.lemmas.Bool.{cases_lt}
use Rattle.std.proofs.lemmas.List.{take_all, take_at, take-append-le, take_more, take_more_same, length-take-le, get_or_append_left, get_or_push, length_push}
use Rattle.std.proofs.Math.Nat.{pow-le-pow_right}
use Rattle.bb_base.specs.Span.{IsInSpan, IsIndependent}
use Rattle.bb_base.specs.Firsts.{IsLeast}
use Rattle.bb_code.specs.Segments.{IsSegment, lists, listing}
use Rattle.bb_code.specs.Columns.{columns_of, given_columns, forbidding, IsFree, AreColumns, AreAllColumns, IsStuckSource}
use Rattle.bb_code.proofs.Spans.{AreApart, apart_between, independent_from_apart}
use Rattle.bb_code.proofs.Given.{given_same, given_between, given_none, given_all}

-- ---- facts of each item, by place

-- a fact of each item, at a place
pub all_at : {X : Type 0} (P : X → Type 0) (d : X) (xs : List X) (i : ℕ) → AllByRecursion P xs → i < length xs → P (get_or xs i d)
all_at P d [] i h lt = absurd (omega (arith, lt))
all_at P d (x ∷ xs) zero h lt = h.0
all_at P d (x ∷ xs) (suc i) h lt = all_at P d xs i h.1 (omega (arith, lt))

-- ---- degrees

-- a higher degree has no fewer states
pub states_grow : (degree more : ℕ) → degree ≤ more → 2 ^ degree ≤ 2 ^ more
states_grow degree more le = pow-le-pow_right (omega arith) le

-- there is one least number
pub least_is_one : {P : ℕ → Type 0} (a b : ℕ) → IsLeast P a → IsLeast P b → a ≡ b
least_is_one a b ha hb =
    let up = ha.least b hb.holds in
    let down = hb.least a ha.holds in
    omega (arith, up, down)

-- the least free column at a degree is the least at each higher one
pub least_higher : (degree more : ℕ) (spans : List (List ℕ)) (c : ℕ) → degree ≤ more → IsLeast (IsFree degree spans) c → IsLeast (IsFree more spans) c
least_higher degree more spans c le h =
    let grown = states_grow degree more le in
    let small = h.holds.fits in
    record {
      holds = record { nonzero = h.holds.nonzero; fits = omega (arith, small, grown); outside = h.holds.outside };
      least = λ m free.
          ⊎_elim (λ lt. h.least m (record { nonzero = free.nonzero; fits = lt; outside = free.outside }))
          (λ ge. omega (arith, ge, small)) (cases_lt m (2 ^ degree));
    }

-- and at each lower one that it fits
pub least_lower : (degree more : ℕ) (spans : List (List ℕ)) (c : ℕ) → degree ≤ more → IsLeast (IsFree more spans) c → c < 2 ^ degree → IsLeast (IsFree degree spans) c
least_lower degree more spans c le h small =
    let grown = states_grow degree more le in
    record {
      holds = record { nonzero = h.holds.nonzero; fits = small; outside = h.holds.outside };
      least = λ m free. let fits = free.fits in h.least m (record { nonzero = free.nonzero; fits = omega (arith, fits, grown); outside = free.outside });
    }

-- the same of all columns
pub columns_higher : (degree more : ℕ) (segments : List (List ℕ)) (columns : List ℕ) → degree ≤ more → AreColumns degree segments columns → AreColumns more segments columns
columns_higher degree more segments columns le h source lt = least_higher degree more (forbidding segments (take source columns)) (get_or columns source 0) le (h source lt)

pub columns_lower : (degree more : ℕ) (segments : List (List ℕ)) (columns : List ℕ) → degree ≤ more → AreColumns more segments columns
    → EachIndex columns (λ source. get_or columns source 0 < 2 ^ degree) → AreColumns degree segments columns
columns_lower degree more segments columns le h small source lt =
    least_lower degree more (forbidding segments (take source columns)) (get_or columns source 0) le (h source lt) (small source lt)

pub columns_below : (degree : ℕ) (segments : List (List ℕ)) (columns : List ℕ) → AreColumns degree segments columns → EachIndex columns (λ source. get_or columns source 0 < 2 ^ degree)
columns_below degree segments columns h source lt = (h source lt).holds.fits

-- a source in no segment takes 1
pub column_alone : (degree : ℕ) (segments : List (List ℕ)) (columns : List ℕ) (source : ℕ) → AreColumns degree segments columns
    → source < length columns → listing segments source ≡ [] → get_or columns source 0 ≡ 1
column_alone degree segments columns source h lt none =
    let long : length (take source columns) ≡ source = length-take-le source columns (omega (arith, lt)) in
    let c = get_or columns source 0 in
    let spans : forbidding segments (take source columns) ≡ [] = ap (map (given_columns (take source columns))) (ap (listing segments) long ∙ none) in
    let least = subst (λ ys. IsLeast (IsFree degree ys) c) spans (h source lt) in
    let some = least.holds.nonzero in
    let fits = least.holds.fits in
    let one = least.least 1 (record { nonzero = omega arith; fits = omega (arith, some, fits); outside = tt }) in
    omega (arith, some, one)

-- ---- one choice

-- two choices agree on what they both have
pub same_front : (degree : ℕ) (segments : List (List ℕ)) (xs ys : List ℕ) → AreColumns degree segments xs → AreColumns degree segments ys
    → (n : ℕ) → n ≤ length xs → n ≤ length ys → take n xs ≡ take n ys
same_front degree segments xs ys hx hy zero lx ly = refl
same_front degree segments xs ys hx hy (suc n) lx ly =
    let before = same_front degree segments xs ys hx hy n (omega (arith, lx)) (omega (arith, ly)) in
    let in_xs : n < length xs = omega (arith, lx) in
    let in_ys : n < length ys = omega (arith, ly) in
    let there = subst (λ zs. IsLeast (IsFree degree (forbidding segments zs)) (get_or ys n 0)) (sym before) (hy n in_ys) in
    let here = least_is_one (get_or xs n 0) (get_or ys n 0) (hx n in_xs) there in
    let e : n + 1 ≡ suc n = omega arith in
    subst (λ k. take k xs ≡ take k ys) e (take_more_same xs ys n 0 in_xs in_ys before here)

pub columns_unique : (degree : ℕ) (segments : List (List ℕ)) (xs ys : List ℕ) → AreColumns degree segments xs → AreColumns degree segments ys → length xs ≡ length ys → xs ≡ ys
columns_unique degree segments xs ys hx hy e =
    sym (take_all (length xs) xs (omega arith)) ∙ same_front degree segments xs ys hx hy (length xs) (omega arith) (omega (arith, e)) ∙ take_all (length xs) ys (omega (arith, e))

-- no choice goes past a stuck source, and there is one at most
pub none_past_stuck : (degree : ℕ) (segments : List (List ℕ)) (columns : List ℕ) (source : ℕ) → AreColumns degree segments columns → IsStuckSource degree segments source → length columns ≤ source
none_past_stuck degree segments columns source h stuck = ⊎_elim past (λ le. le) (cases_lt source (length columns))
  where
    past : source < length columns → length columns ≤ source
    past lt =
        let long = stuck.before.one_each in
        let front : take source columns ≡ stuck.columns =
        same_front degree segments columns stuck.columns h stuck.before.chosen source (omega (arith, lt)) (omega (arith, long))
        ∙ take_all source stuck.columns (omega (arith, long)) in
        absurd (stuck.none (get_or columns source 0) (subst (λ zs. IsFree degree (forbidding segments zs) (get_or columns source 0)) front (h source lt).holds))

pub stuck_once : (degree : ℕ) (segments : List (List ℕ)) (a b : ℕ) → IsStuckSource degree segments a → IsStuckSource degree segments b → a ≡ b
stuck_once degree segments a b ha hb =
    let la = ha.before.one_each in
    let lb = hb.before.one_each in
    let up = none_past_stuck degree segments ha.columns b ha.before.chosen hb in
    let down = none_past_stuck degree segments hb.columns a hb.before.chosen ha in
    omega (arith, la, lb, up, down)

-- one column more
pub columns_push : (degree : ℕ) (segments : List (List ℕ)) (columns : List ℕ) (c : ℕ) → AreColumns degree segments columns
    → IsLeast (IsFree degree (forbidding segments columns)) c → AreColumns degree segments (columns ++ c ∷ [])
columns_push degree segments columns c h new source lt = go (cases_lt source (length columns))
  where
    long : length (columns ++ c ∷ []) ≡ length columns + 1
    long = length_push columns c

    go : (source < length columns) ⊎ (length columns ≤ source) → IsLeast (IsFree degree (forbidding segments (take source (columns ++ c ∷ [])))) (get_or (columns ++ c ∷ []) source 0)
    go (inl before) =
        subst (λ zs. IsLeast (IsFree degree (forbidding segments zs)) (get_or (columns ++ c ∷ []) source 0)) (sym (take-append-le source columns (c ∷ []) (omega (arith, before))))
        (subst (IsLeast (IsFree degree (forbidding segments (take source columns)))) (sym (get_or_append_left columns (c ∷ []) 0 source before)) (h source before))
    go (inr after) =
        let same : length columns ≡ source = omega (arith, lt, long, after) in
        subst (λ zs. IsLeast (IsFree degree (forbidding segments zs)) (get_or (columns ++ c ∷ []) source 0)) (sym (take_at columns (c ∷ []) source same))
        (subst (IsLeast (IsFree degree (forbidding segments columns))) (sym (get_or_push columns c 0 source same)) new)

-- what the search for the next column answers
abbrev pub IsNext : (degree : ℕ) (segments : List (List ℕ)) (columns : List ℕ) (next : Option ℕ) → Type 0
IsNext degree segments columns next =
    MatchOption next ((v : ℕ) → IsFree degree (forbidding segments columns) v → ⊥) (λ v. IsLeast (IsFree degree (forbidding segments columns)) v)

-- where the search finds none its source is stuck, and what it finds is the next column
pub stuck_here : (degree : ℕ) (segments : List (List ℕ)) (source : ℕ) (columns read : List ℕ) (next : Option ℕ) → AreAllColumns degree segments source columns → read ≡ columns
    → IsNext degree segments read next → next ≡ None → IsStuckSource degree segments source
stuck_here degree segments source columns read next h same found none =
    record { columns = columns; before = h; none = subst (IsNext degree segments columns) none (subst (λ xs. IsNext degree segments xs next) same found) }

pub columns_more : (degree : ℕ) (segments : List (List ℕ)) (source : ℕ) (columns read new : List ℕ) (next : Option ℕ) (v : ℕ) → AreAllColumns degree segments source columns → read ≡ columns
    → IsNext degree segments read next → next ≡ Some v → new ≡ columns ++ v ∷ [] → AreAllColumns degree segments (source + 1) new
columns_more degree segments source columns read new next v h same found some pushed =
    let least = subst (IsNext degree segments columns) some (subst (λ xs. IsNext degree segments xs next) same found) in
    let long = length_push columns v in
    let before = h.one_each in
    subst (AreAllColumns degree segments (source + 1)) (sym pushed)
    (record { one_each = omega (arith, long, before); chosen = columns_push degree segments columns v h.chosen least })

-- ---- independence

-- where a segment lists a source, the source's column is outside the span of those that the segment had
abbrev IsKeptClear : List ℕ → List ℕ → Type 0
IsKeptClear columns segment = (n : ℕ) → n < length columns → lists n segment ≡ true → IsInSpan (given_columns (take n columns) segment) (get_or columns n 0) → ⊥

-- the choice keeps each segment's sources clear of their spans
each_kept_clear : (columns : List ℕ) (segments : List (List ℕ))
    → ((n : ℕ) → n < length columns → AllByRecursion (λ rows. IsInSpan rows (get_or columns n 0) → ⊥) (map (given_columns (take n columns)) (listing segments n)))
    → AllByRecursion (IsKeptClear columns) segments
each_kept_clear columns [] h = tt
each_kept_clear columns (segment ∷ segments) h = (
  λ n lt e. first n (lists n segment) e (h n lt),
  each_kept_clear columns segments (λ n lt. rest n (lists n segment) (h n lt)),
)
  where
    first : (n : ℕ) (b : Bool) → b ≡ true
        → AllByRecursion (λ rows. IsInSpan rows (get_or columns n 0) → ⊥) (map (given_columns (take n columns)) (cond b (segment ∷ listing segments n) (listing segments n)))
        → IsInSpan (given_columns (take n columns) segment) (get_or columns n 0) → ⊥
    first n true e all = all.0
    first n false e all = absurd cc

    rest : (n : ℕ) (b : Bool)
        → AllByRecursion (λ rows. IsInSpan rows (get_or columns n 0) → ⊥) (map (given_columns (take n columns)) (cond b (segment ∷ listing segments n) (listing segments n)))
        → AllByRecursion (λ rows. IsInSpan rows (get_or columns n 0) → ⊥) (map (given_columns (take n columns)) (listing segments n))
    rest n true all = all.1
    rest n false all = all

-- the columns that a segment's sources have so far are apart
apart_so_far : (columns segment : List ℕ) (sources : ℕ) → IsSegment sources segment → IsKeptClear columns segment → (n : ℕ) → n ≤ length columns → AreApart (given_columns (take n columns) segment)
apart_so_far columns segment sources s clear zero le = subst AreApart (sym (given_none segment)) tt
apart_so_far columns segment sources s clear (suc n) le = go (lists n segment) refl (apart_so_far columns segment sources s clear n (omega (arith, le)))
  where
    lt : n < length columns
    lt = omega (arith, le)

    c : ℕ
    c = get_or columns n 0

    long : length (take n columns) ≡ n
    long = length-take-le n columns (omega (arith, le))

    grown : take n columns ++ c ∷ [] ≡ take (suc n) columns
    grown = let e : n + 1 ≡ suc n = omega arith in sym (take_more columns n 0 lt) ∙ ap (λ k. take k columns) e

    go : (b : Bool) → lists n segment ≡ b → AreApart (given_columns (take n columns) segment) → AreApart (given_columns (take (suc n) columns) segment)
    go false e before =
        subst AreApart (sym (given_same (take n columns) c segment (ap (λ k. lists k segment) long ∙ e)) ∙ ap (λ ys. given_columns ys segment) grown) before
    go true e before =
        let between = given_between (take n columns) c segment s.distinct (ap (λ k. lists k segment) long ∙ e) in
        let outside = subst (λ ys. IsInSpan ys c → ⊥) between.old_is (clear n lt e) in
        subst AreApart (sym between.new_is ∙ ap (λ ys. given_columns ys segment) grown)
        (apart_between between.front between.back c (subst AreApart between.old_is before) outside)

-- so they are independent in the end
pub each_independent : (degree sources : ℕ) (all segments : List (List ℕ)) (columns : List ℕ) → AreAllColumns degree all sources columns
    → AllByRecursion (IsSegment sources) segments → AllByRecursion (IsKeptClear columns) segments
    → AllByRecursion (λ segment. IsIndependent (columns_of columns segment)) segments
each_independent degree sources all [] columns h each clear = tt
each_independent degree sources all (segment ∷ segments) columns h each clear =
    (independent, each_independent degree sources all segments columns h each.1 clear.1)
  where
    whole : given_columns (take (length columns) columns) segment ≡ columns_of columns segment
    whole =
        ap (λ ys. given_columns ys segment) (take_all (length columns) columns (omega arith))
        ∙ given_all columns segment (subst (λ k. AllByRecursion (λ source. source < k) segment) (sym h.one_each) each.0.below)

    independent : IsIndependent (columns_of columns segment)
    independent =
        independent_from_apart (columns_of columns segment)
        (subst AreApart whole (apart_so_far columns segment sources each.0 clear.0 (length columns) (omega arith)))

pub segments_independent : (degree sources : ℕ) (segments : List (List ℕ)) (columns : List ℕ) → AllByRecursion (IsSegment sources) segments
    → AreAllColumns degree segments sources columns → AllByRecursion (λ segment. IsIndependent (columns_of columns segment)) segments
segments_independent degree sources segments columns each h =
    each_independent degree sources segments segments columns h each (each_kept_clear columns segments clear)
  where
    clear : (n : ℕ) → n < length columns → AllByRecursion (λ rows. IsInSpan rows (get_or columns n 0) → ⊥) (map (given_columns (take n columns)) (listing segments n))
    clear n lt =
        let long : length (take n columns) ≡ n = length-take-le n columns (omega (arith, lt)) in
        subst (λ k. AllByRecursion (λ rows. IsInSpan rows (get_or columns n 0) → ⊥) (map (given_columns (take n columns)) (listing segments k))) long (h.chosen n lt).holds.outside
