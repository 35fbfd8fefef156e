-- the columns given to a segment, as one source more has its column
use Rattle.std.proofs.Common.{◌≡◌, ℕ, ◌+◌, ◌<◌, ◌≤◌, suc, List, [], ◌∷◌, ◌++◌, length, get_or, Bool, true, false, eqb, ltb, ◌||◌, cond, refl, sym, ap, ◌∙◌, subst, arith, ◌⊎◌, inl, inr}
use Rattle.std.specs.List.{filter, list_any, AllByRecursion, IsDistinct}
use Rattle.std.proofs.lemmas.Bool.{cases_lt, lt-ltb, le-ltb, eqb-true, eqb-false, or_parts}
use Rattle.std.proofs.lemmas.List.{get_or_append_left, get_or_push, length_push}
use Rattle.std.proofs.lemmas.Map.Keys.{IsDistinct-head, IsDistinct-tail}
use Rattle.bb_code.specs.Segments.{lists}
use Rattle.bb_code.specs.Columns.{columns_of, given_columns}

-- a source with a column gives it, and one without gives none
pub given_keeps : (columns : List ℕ) (x : ℕ) (segment : List ℕ) → x < length columns → given_columns columns (x ∷ segment) ≡ get_or columns x 0 ∷ given_columns columns segment
given_keeps columns x segment lt = ap (λ b. columns_of columns (cond b (x ∷ filter (λ s. ltb s (length columns)) segment) (filter (λ s. ltb s (length columns)) segment))) (lt-ltb x (length columns) lt)

pub given_skips : (columns : List ℕ) (x : ℕ) (segment : List ℕ) → length columns ≤ x → given_columns columns (x ∷ segment) ≡ given_columns columns segment
given_skips columns x segment le = ap (λ b. columns_of columns (cond b (x ∷ filter (λ s. ltb s (length columns)) segment) (filter (λ s. ltb s (length columns)) segment))) (le-ltb x (length columns) le)

-- a column more is read as before at the sources before it
same_before : (columns : List ℕ) (c x : ℕ) → x < length columns → get_or (columns ++ c ∷ []) x 0 ≡ get_or columns x 0
same_before columns c x lt = get_or_append_left columns (c ∷ []) 0 x lt

one_more : (columns : List ℕ) (c : ℕ) → length (columns ++ c ∷ []) ≡ length columns + 1
one_more columns c = length_push columns c

-- with a column more a source before the new one gives what it gave, and one behind it gives none
keeps_both : (columns : List ℕ) (c x : ℕ) (segment : List ℕ) → x < length columns → given_columns (columns ++ c ∷ []) (x ∷ segment) ≡ get_or columns x 0 ∷ given_columns (columns ++ c ∷ []) segment
keeps_both columns c x segment lt =
    let long = one_more columns c in
    given_keeps (columns ++ c ∷ []) x segment (omega (arith, lt, long)) ∙ ap (λ y. y ∷ given_columns (columns ++ c ∷ []) segment) (same_before columns c x lt)

skips_both : (columns : List ℕ) (c x : ℕ) (segment : List ℕ) → length columns < x → given_columns (columns ++ c ∷ []) (x ∷ segment) ≡ given_columns (columns ++ c ∷ []) segment
skips_both columns c x segment lt = let long = one_more columns c in given_skips (columns ++ c ∷ []) x segment (omega (arith, lt, long))

-- a segment that doesn't list the source has the columns that it had
pub given_same : (columns : List ℕ) (c : ℕ) (segment : List ℕ) → lists (length columns) segment ≡ false → given_columns (columns ++ c ∷ []) segment ≡ given_columns columns segment
given_same columns c [] e = refl
given_same columns c (x ∷ segment) e =
    let parts = or_parts (eqb (length columns) x) (list_any (eqb (length columns)) segment) e in
    go (cases_lt x (length columns)) parts.0 (given_same columns c segment parts.1)
  where
    go : (x < length columns) ⊎ (length columns ≤ x) → eqb (length columns) x ≡ false → given_columns (columns ++ c ∷ []) segment ≡ given_columns columns segment
        → given_columns (columns ++ c ∷ []) (x ∷ segment) ≡ given_columns columns (x ∷ segment)
    go (inl lt) other h = keeps_both columns c x segment lt ∙ ap (λ ys. get_or columns x 0 ∷ ys) h ∙ sym (given_keeps columns x segment lt)
    go (inr le) other h =
        let apart = eqb-false (length columns) x other in
        let lt : length columns < x = omega (arith, le, apart) in
        skips_both columns c x segment lt ∙ h ∙ sym (given_skips columns x segment le)

-- new is old with a row between
pub record IsBetween (r : ℕ) (old new : List ℕ) : Type 0 where
  pub front : List ℕ
  pub back : List ℕ
  pub old_is : old ≡ front ++ back
  pub new_is : new ≡ front ++ r ∷ back

-- a source that differs from each listed one is not listed
not_listed : (n : ℕ) (segment : List ℕ) → AllByRecursion (λ y. eqb n y ≡ false) segment → list_any (eqb n) segment ≡ false
not_listed n [] h = refl
not_listed n (y ∷ segment) h = ap (λ b. b || list_any (eqb n) segment) h.0 ∙ not_listed n segment h.1

-- a segment that lists the source has its column between those that it had
pub given_between : (columns : List ℕ) (c : ℕ) (segment : List ℕ) → IsDistinct eqb segment → lists (length columns) segment ≡ true
    → IsBetween c (given_columns columns segment) (given_columns (columns ++ c ∷ []) segment)
given_between columns c [] distinct e = absurd cc
given_between columns c (x ∷ segment) distinct e = go (eqb (length columns) x) refl e (given_between columns c segment (IsDistinct-tail eqb x segment distinct))
  where
    go : (b : Bool) → eqb (length columns) x ≡ b → (b || list_any (eqb (length columns)) segment) ≡ true
        → (lists (length columns) segment ≡ true → IsBetween c (given_columns columns segment) (given_columns (columns ++ c ∷ []) segment))
        → IsBetween c (given_columns columns (x ∷ segment)) (given_columns (columns ++ c ∷ []) (x ∷ segment))
    go true here s more =
        let same : length columns ≡ x = eqb-true (length columns) x here in
        let long = one_more columns c in
        let others : lists (length columns) segment ≡ false = not_listed (length columns) segment (subst (λ k. AllByRecursion (λ y. eqb k y ≡ false) segment) (sym same) (IsDistinct-head eqb x segment distinct)) in
        record {
          front = [];
          back = given_columns columns segment;
          old_is = given_skips columns x segment (omega (arith, same));
          new_is = given_keeps (columns ++ c ∷ []) x segment (omega (arith, same, long)) ∙ (λ i. get_or_push columns c 0 x same i ∷ given_same columns c segment others i);
        }
    go false other s more = by_order (cases_lt x (length columns)) (more s)
      where
        by_order : (x < length columns) ⊎ (length columns ≤ x) → IsBetween c (given_columns columns segment) (given_columns (columns ++ c ∷ []) segment)
            → IsBetween c (given_columns columns (x ∷ segment)) (given_columns (columns ++ c ∷ []) (x ∷ segment))
        by_order (inl lt) h = record {
          front = get_or columns x 0 ∷ h.front;
          back = h.back;
          old_is = given_keeps columns x segment lt ∙ ap (λ ys. get_or columns x 0 ∷ ys) h.old_is;
          new_is = keeps_both columns c x segment lt ∙ ap (λ ys. get_or columns x 0 ∷ ys) h.new_is;
        }
        by_order (inr le) h =
            let apart = eqb-false (length columns) x other in
            let lt : length columns < x = omega (arith, le, apart) in
            record {
              front = h.front;
              back = h.back;
              old_is = given_skips columns x segment le ∙ h.old_is;
              new_is = skips_both columns c x segment lt ∙ h.new_is;
            }

-- before the first source has its column there is none
pub given_none : (segment : List ℕ) → given_columns [] segment ≡ []
given_none [] = refl
given_none (x ∷ segment) = given_skips [] x segment (omega arith) ∙ given_none segment

-- in the end each source has its column
pub given_all : (columns segment : List ℕ) → AllByRecursion (λ source. source < length columns) segment → given_columns columns segment ≡ columns_of columns segment
given_all columns [] h = refl
given_all columns (x ∷ segment) h = given_keeps columns x segment h.0 ∙ ap (λ ys. get_or columns x 0 ∷ ys) (given_all columns segment h.1)

-- no more columns are given than there are sources
pub length_given : (columns segment : List ℕ) → length (given_columns columns segment) ≤ length segment
length_given columns [] = omega arith
length_given columns (x ∷ segment) = go (cases_lt x (length columns)) (length_given columns segment)
  where
    go : (x < length columns) ⊎ (length columns ≤ x) → length (given_columns columns segment) ≤ length segment → length (given_columns columns (x ∷ segment)) ≤ suc (length segment)
    go (inl lt) h = subst (λ ys. length ys ≤ suc (length segment)) (sym (given_keeps columns x segment lt)) (omega (arith, h))
    go (inr le) h = subst (λ ys. length ys ≤ suc (length segment)) (sym (given_skips columns x segment le)) (omega (arith, h))

-- one of the sources of a segment that lists the next one has no column yet
pub length_given_listed : (columns segment : List ℕ) → lists (length columns) segment ≡ true → length (given_columns columns segment) < length segment
length_given_listed columns [] e = absurd cc
length_given_listed columns (x ∷ segment) e = go (eqb (length columns) x) refl e (length_given_listed columns segment)
  where
    go : (b : Bool) → eqb (length columns) x ≡ b → (b || list_any (eqb (length columns)) segment) ≡ true
        → (lists (length columns) segment ≡ true → length (given_columns columns segment) < length segment)
        → length (given_columns columns (x ∷ segment)) < suc (length segment)
    go true here s more =
        let same : length columns ≡ x = eqb-true (length columns) x here in
        let le = length_given columns segment in
        subst (λ ys. length ys < suc (length segment)) (sym (given_skips columns x segment (omega (arith, same)))) (omega (arith, le))
    go false other s more = by_order (cases_lt x (length columns)) (more s)
      where
        by_order : (x < length columns) ⊎ (length columns ≤ x) → length (given_columns columns segment) < length segment → length (given_columns columns (x ∷ segment)) < suc (length segment)
        by_order (inl lt) h = subst (λ ys. length ys < suc (length segment)) (sym (given_keeps columns x segment lt)) (omega (arith, h))
        by_order (inr le) h = subst (λ ys. length ys < suc (length segment)) (sym (given_skips columns x segment le)) (omega (arith, h))
