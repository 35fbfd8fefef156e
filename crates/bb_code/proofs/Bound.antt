-- the counting bound: where no column is left, all numbers of a degree are in the spans, which have no more numbers than their sizes added up
use Rattle.std.proofs.Common.{◌≡◌, ℕ, ◌+◌, ◌-◌, ◌*◌, ◌<◌, ◌≤◌, ◌^◌, suc, List, [], ◌∷◌, ◌++◌, length, map, Bool, true, false, cond, eqb, refl, sym, ap, ◌∙◌, subst, arith, bit_xor, ⊎_elim, length-append}
use Rattle.std.specs.List.{list_any, flat_map, AllByRecursion}
use Rattle.std.proofs.lemmas.Bool.{cases_eq, eq-eqb, or_right, or_left, false_from_ne_true, both_ways}
use Rattle.std.proofs.lemmas.List.Folds.{list_any-append}
use Rattle.std.proofs.lemmas.Map.Steps.{le-length_from_below}
use Rattle.std.proofs.Math.Nat.{pow-suc, pow-le-pow_right}
use Rattle.bb_base.specs.Span.{IsInSpan, IsInCoset}
use Rattle.bb_code.specs.Segments.{AreWithin, ListSources, lists, listing}
use Rattle.bb_code.specs.Columns.{given_columns, forbidding, IsFree, IsStuckSource}
use Rattle.bb_code.specs.Marks.{sizes}
use Rattle.bb_code.proofs.Spans.{coset_split, coset_none, coset_itself}
use Rattle.bb_code.proofs.Given.{length_given_listed}

-- ---- a coset as a list

abbrev pub coset : List ℕ → ℕ → List ℕ
coset [] v = v ∷ []
coset (r ∷ rows) v = coset rows v ++ coset rows (bit_xor v r)

pub length_coset : (rows : List ℕ) (v : ℕ) → length (coset rows v) ≡ 2 ^ length rows
length_coset [] v = refl
length_coset (r ∷ rows) v =
    let double : 2 ^ suc (length rows) ≡ 2 ^ length rows * 2 = pow-suc 2 (length rows) in
    let here = length_coset rows v in
    let there = length_coset rows (bit_xor v r) in
    length-append (coset rows v) (coset rows (bit_xor v r)) ∙ omega (arith, double, here, there)

-- membership in joined lists
any_left : (w : ℕ) (xs ys : List ℕ) → list_any (eqb w) xs ≡ true → list_any (eqb w) (xs ++ ys) ≡ true
any_left w xs ys e = list_any-append (eqb w) xs ys ∙ or_left (list_any (eqb w) xs) (list_any (eqb w) ys) e

any_right : (w : ℕ) (xs ys : List ℕ) → list_any (eqb w) ys ≡ true → list_any (eqb w) (xs ++ ys) ≡ true
any_right w xs ys e = list_any-append (eqb w) xs ys ∙ or_right (list_any (eqb w) xs) (list_any (eqb w) ys) e

-- the list of a coset has its members
in_coset : (rows : List ℕ) (v w : ℕ) → IsInCoset rows v w → list_any (eqb w) (coset rows v) ≡ true
in_coset [] v w h = or_left (eqb w v) false (eq-eqb w v (sym (coset_none v w h)))
in_coset (r ∷ rows) v w h =
    ⊎_elim (λ a. any_left w (coset rows v) (coset rows (bit_xor v r)) (in_coset rows v w a))
    (λ b. any_right w (coset rows v) (coset rows (bit_xor v r)) (in_coset rows (bit_xor v r) w b)) (coset_split r rows v w h)

-- ---- all numbers in some spans

abbrev pub inside : List (List ℕ) → List ℕ
inside spans = flat_map (λ rows. coset rows 0) spans

-- it is as long as the sizes added up
pub length_inside : (spans : List (List ℕ)) → length (inside spans) ≡ sizes spans
length_inside [] = refl
length_inside (rows ∷ spans) =
    let first = length_coset rows 0 in
    let rest = length_inside spans in
    length-append (coset rows 0) (flat_map (λ rows. coset rows 0) spans) ∙ (λ i. first i + rest i)

-- what the list doesn't have is outside each span
pub outside_all : (spans : List (List ℕ)) (w : ℕ) → list_any (eqb w) (inside spans) ≡ false → AllByRecursion (λ rows. IsInSpan rows w → ⊥) spans
outside_all [] w e = tt
outside_all (rows ∷ spans) w e = (
  λ s. both_ways (list_any (eqb w) (coset rows 0 ++ inside spans)) e (any_left w (coset rows 0) (inside spans) (in_coset rows 0 w s)),
  outside_all spans w (false_from_ne_true (list_any (eqb w) (inside spans)) (λ t. both_ways (list_any (eqb w) (coset rows 0 ++ inside spans)) e (any_right w (coset rows 0) (inside spans) t))),
)

-- each number but 0 that isn't free is inside
inside_from_not_free : (degree : ℕ) (spans : List (List ℕ)) (w : ℕ) → 0 < w → w < 2 ^ degree → (IsFree degree spans w → ⊥) → list_any (eqb w) (inside spans) ≡ true
inside_from_not_free degree spans w some lt taken = go (list_any (eqb w) (inside spans)) refl
  where
    go : (b : Bool) → list_any (eqb w) (inside spans) ≡ b → b ≡ true
    go true e = refl
    go false e = absurd (taken (record { nonzero = some; fits = lt; outside = outside_all spans w e }))

-- where no number but 0 below a bound is free, the bound is at most one more than the sizes
pub bound_with_zero : (degree n : ℕ) (spans : List (List ℕ)) → n ≤ 2 ^ degree → ((w : ℕ) → w < n → IsFree degree spans w → ⊥) → n ≤ 1 + sizes spans
bound_with_zero degree n spans le taken =
    let short : n ≤ length (0 ∷ inside spans) = le-length_from_below (0 ∷ inside spans) n each in
    let long = length_inside spans in
    omega (arith, short, long)
  where
    each : (w : ℕ) → w < n → list_any (eqb w) (0 ∷ inside spans) ≡ true
    each w lt =
        ⊎_elim (λ none. or_left (eqb w 0) (list_any (eqb w) (inside spans)) (eq-eqb w 0 none))
        (λ some. or_right (eqb w 0) (list_any (eqb w) (inside spans)) (inside_from_not_free degree spans w (omega (arith, some)) (omega (arith, lt, le)) (taken w lt))) (cases_eq w 0)

-- 0 is in any span, so where there is one the bound is at most the sizes; where there is none, 1 is free
pub bound_without_zero : (degree : ℕ) (spans : List (List ℕ)) → 1 ≤ degree → ((w : ℕ) → IsFree degree spans w → ⊥) → 2 ^ degree ≤ sizes spans
bound_without_zero degree [] some taken =
    let grown : 2 ^ 1 ≤ 2 ^ degree = pow-le-pow_right (omega arith) some in
    absurd (taken 1 (record { nonzero = omega arith; fits = omega (arith, grown); outside = tt }))
bound_without_zero degree (rows ∷ spans) some taken =
    let short : 2 ^ degree ≤ length (inside (rows ∷ spans)) = le-length_from_below (inside (rows ∷ spans)) (2 ^ degree) each in
    let long = length_inside (rows ∷ spans) in
    omega (arith, short, long)
  where
    zero_inside : list_any (eqb 0) (inside (rows ∷ spans)) ≡ true
    zero_inside = any_left 0 (coset rows 0) (inside spans) (in_coset rows 0 0 (coset_itself rows 0))

    each : (w : ℕ) → w < 2 ^ degree → list_any (eqb w) (inside (rows ∷ spans)) ≡ true
    each w lt =
        ⊎_elim (λ none. subst (λ k. list_any (eqb k) (inside (rows ∷ spans)) ≡ true) (sym none) zero_inside)
        (λ more. inside_from_not_free degree (rows ∷ spans) w (omega (arith, more)) lt (taken w)) (cases_eq w 0)

-- ---- the sizes by the largest segment and the most listed source

-- one more list that is no longer than the others
more : (a b c n : ℕ) → a ≤ c → b ≤ n * c → a + b ≤ suc n * c
more a b c n h k = grind arith

sizes_within : (columns : List ℕ) (segments : List (List ℕ)) (n size : ℕ) → length columns ≡ n → AllByRecursion (λ segment. length segment ≤ size) segments
    → sizes (map (given_columns columns) (listing segments n)) ≤ length (listing segments n) * 2 ^ (size - 1)
sizes_within columns [] n size e h = omega arith
sizes_within columns (segment ∷ segments) n size e h = go (lists n segment) refl (sizes_within columns segments n size e h.1)
  where
    go : (b : Bool) → lists n segment ≡ b → sizes (map (given_columns columns) (listing segments n)) ≤ length (listing segments n) * 2 ^ (size - 1)
        → sizes (map (given_columns columns) (cond b (segment ∷ listing segments n) (listing segments n))) ≤ length (cond b (segment ∷ listing segments n) (listing segments n)) * 2 ^ (size - 1)
    go true s rest =
        let short : length (given_columns columns segment) < length segment = length_given_listed columns segment (ap (λ k. lists k segment) e ∙ s) in
        let within = h.0 in
        let less : length (given_columns columns segment) ≤ size - 1 = omega (arith, short, within) in
        let one : 2 ^ length (given_columns columns segment) ≤ 2 ^ (size - 1) = pow-le-pow_right (omega arith) less in
        more (2 ^ length (given_columns columns segment)) (sizes (map (given_columns columns) (listing segments n))) (2 ^ (size - 1)) (length (listing segments n)) one rest
    go false s rest = rest

-- a source in no segment can take 1
pub stuck_listed : (degree source : ℕ) (segments : List (List ℕ)) → 1 ≤ degree → IsStuckSource degree segments source → ListSources segments
stuck_listed degree source segments some stuck = (length stuck.columns, go (listing segments (length stuck.columns)) stuck.none)
  where
    go : (found : List (List ℕ)) → ((column : ℕ) → IsFree degree (map (given_columns stuck.columns) found) column → ⊥) → 0 < length found
    go [] none =
        let grown : 2 ^ 1 ≤ 2 ^ degree = pow-le-pow_right (omega arith) some in
        absurd (none 1 (record { nonzero = omega arith; fits = omega (arith, grown); outside = tt }))
    go (segment ∷ found) none = omega arith

pub stuck_bound : (degree source listed size : ℕ) (segments : List (List ℕ)) → 1 ≤ degree → IsStuckSource degree segments source → AreWithin listed size segments
    → 2 ^ degree ≤ listed * 2 ^ (size - 1)
stuck_bound degree source listed size segments some stuck within =
    let columns = stuck.columns in
    let n = length columns in
    let all = bound_without_zero degree (forbidding segments columns) some stuck.none in
    let each = sizes_within columns segments n size refl within.each_segment in
    let few = within.each_source n in
    let more : length (listing segments n) * 2 ^ (size - 1) ≤ listed * 2 ^ (size - 1) = product (length (listing segments n)) listed (2 ^ (size - 1)) few in
    omega (arith, all, each, more)
  where
    product : (a b c : ℕ) → a ≤ b → a * c ≤ b * c
    product a b c h = grind arith
