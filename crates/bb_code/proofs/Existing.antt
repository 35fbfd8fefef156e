-- where the counting bound allows it there are columns for all sources: the search for the next one can't fail
use Rattle.std.proofs.Common.{◌≡◌, ℕ, ◌-◌, ◌*◌, ◌<◌, ◌≤◌, ◌^◌, zero, suc, List, [], ◌∷◌, ◌++◌, Bool, true, false, eqb, refl, sym, ◌∙◌, subst, arith, bit_xor, ◌⊎◌, inl, inr, ⊎_elim}
use Rattle.std.specs.List.{list_any, AllByRecursion}
use Rattle.std.proofs.lemmas.Bool.{cases_lt, cases_eq, eqb-true, or_cases}
use Rattle.std.proofs.lemmas.List.{length_push}
use Rattle.std.proofs.lemmas.List.Folds.{list_any-append}
use Rattle.bb_base.specs.Span.{IsInSpan, IsInCoset}
use Rattle.bb_base.specs.Firsts.{IsLeast}
use Rattle.bb_code.specs.Segments.{AreWithin, ListSources}
use Rattle.bb_code.specs.Columns.{forbidding, IsFree, AreAllColumns, IsStuckSource}
use Rattle.bb_code.proofs.Spans.{coset_itself, coset_with, coset_without}
use Rattle.bb_code.proofs.Bound.{coset, inside, outside_all, stuck_bound, stuck_listed}
use Rattle.bb_code.proofs.OneChoice.{columns_push}

-- membership in joined lists
any_split : (w : ℕ) (xs ys : List ℕ) → list_any (eqb w) (xs ++ ys) ≡ true → (list_any (eqb w) xs ≡ true) ⊎ (list_any (eqb w) ys ≡ true)
any_split w xs ys e = or_cases (list_any (eqb w) xs) (list_any (eqb w) ys) (sym (list_any-append (eqb w) xs ys) ∙ e)

-- the list of a coset has its members alone
from_coset : (rows : List ℕ) (v w : ℕ) → list_any (eqb w) (coset rows v) ≡ true → IsInCoset rows v w
from_coset [] v w e =
    let same : v ≡ w = sym (eqb-true w v (⊎_elim (λ a. a) (λ b. absurd cc) (or_cases (eqb w v) false e))) in
    subst (IsInCoset [] v) same (coset_itself [] v)
from_coset (r ∷ rows) v w e =
    ⊎_elim (λ a. coset_without r rows v w (from_coset rows v w a)) (λ b. coset_with r rows v w (from_coset rows (bit_xor v r) w b))
    (any_split w (coset rows v) (coset rows (bit_xor v r)) e)

-- what the list of all spans has is not outside them
not_outside : (spans : List (List ℕ)) (w : ℕ) → list_any (eqb w) (inside spans) ≡ true → AllByRecursion (λ rows. IsInSpan rows w → ⊥) spans → ⊥
not_outside [] w e h = absurd cc
not_outside (rows ∷ spans) w e h =
    ⊎_elim (λ a. h.0 (from_coset rows 0 w a)) (λ b. not_outside spans w b h.1) (any_split w (coset rows 0) (inside spans) e)

-- the least number but 0 below a bound that a list doesn't have
record IsFirstMissing (xs : List ℕ) (n v : ℕ) : Type 0 where
  nonzero : 0 < v
  below : v < n
  missing : list_any (eqb v) xs ≡ false
  before : (w : ℕ) → 0 < w → w < v → list_any (eqb w) xs ≡ true

-- the least such number, or there is none
find_missing : (xs : List ℕ) (n : ℕ) → ((v : ℕ) × IsFirstMissing xs n v) ⊎ ((w : ℕ) → 0 < w → w < n → list_any (eqb w) xs ≡ true)
find_missing xs zero = inr (λ w some lt. absurd (omega (arith, lt)))
find_missing xs (suc n) = go (find_missing xs n)
  where
    go : ((v : ℕ) × IsFirstMissing xs n v) ⊎ ((w : ℕ) → 0 < w → w < n → list_any (eqb w) xs ≡ true)
        → ((v : ℕ) × IsFirstMissing xs (suc n) v) ⊎ ((w : ℕ) → 0 < w → w < suc n → list_any (eqb w) xs ≡ true)
    go (inl (v, h)) = let lt = h.below in inl (v, record { nonzero = h.nonzero; below = omega (arith, lt); missing = h.missing; before = h.before })
    go (inr all) = by_test (list_any (eqb n) xs) refl (cases_eq n 0)
      where
        by_test : (b : Bool) → list_any (eqb n) xs ≡ b → (n ≡ 0) ⊎ (n ≡ 0 → ⊥)
            → ((v : ℕ) × IsFirstMissing xs (suc n) v) ⊎ ((w : ℕ) → 0 < w → w < suc n → list_any (eqb w) xs ≡ true)
        by_test b e (inl none) = inr (λ w some lt. absurd (omega (arith, none, some, lt)))
        by_test false e (inr some) = inl (n, record { nonzero = omega (arith, some); below = omega arith; missing = e; before = all })
        by_test true e (inr some) =
            inr (λ w more lt. ⊎_elim (λ same. subst (λ k. list_any (eqb k) xs ≡ true) (sym same) e) (λ other. all w more (omega (arith, lt, other))) (cases_eq w n))

-- a degree has a least free column, or none
pub next_or_none : (degree : ℕ) (spans : List (List ℕ)) → ((v : ℕ) × IsLeast (IsFree degree spans) v) ⊎ ((v : ℕ) → IsFree degree spans v → ⊥)
next_or_none degree spans = go (find_missing (inside spans) (2 ^ degree))
  where
    go : ((v : ℕ) × IsFirstMissing (inside spans) (2 ^ degree) v) ⊎ ((w : ℕ) → 0 < w → w < 2 ^ degree → list_any (eqb w) (inside spans) ≡ true)
        → ((v : ℕ) × IsLeast (IsFree degree spans) v) ⊎ ((v : ℕ) → IsFree degree spans v → ⊥)
    go (inl (v, h)) =
        inl (
          v,
          record {
            holds = record { nonzero = h.nonzero; fits = h.below; outside = outside_all spans v h.missing };
            least = λ m free. ⊎_elim (λ lt. absurd (not_outside spans m (h.before m free.nonzero lt) free.outside)) (λ le. le) (cases_lt m v);
          },
        )
    go (inr all) = inr (λ v free. not_outside spans v (all v free.nonzero free.fits) free.outside)

-- all sources have columns, or one is stuck
pub columns_or_stuck : (degree : ℕ) (segments : List (List ℕ)) (sources : ℕ)
    → ((columns : List ℕ) × AreAllColumns degree segments sources columns) ⊎ ((source : ℕ) × (source < sources) × IsStuckSource degree segments source)
columns_or_stuck degree segments zero = inl ([], record { one_each = refl; chosen = λ source lt. absurd (omega (arith, lt)) })
columns_or_stuck degree segments (suc n) = go (columns_or_stuck degree segments n)
  where
    go : ((columns : List ℕ) × AreAllColumns degree segments n columns) ⊎ ((source : ℕ) × (source < n) × IsStuckSource degree segments source)
        → ((columns : List ℕ) × AreAllColumns degree segments (suc n) columns) ⊎ ((source : ℕ) × (source < suc n) × IsStuckSource degree segments source)
    go (inr stuck) = let lt = stuck.1 in inr (stuck.0, omega (arith, lt), stuck.2)
    go (inl (columns, h)) = by_next (next_or_none degree (forbidding segments columns))
      where
        by_next : ((v : ℕ) × IsLeast (IsFree degree (forbidding segments columns)) v) ⊎ ((v : ℕ) → IsFree degree (forbidding segments columns) v → ⊥)
            → ((columns : List ℕ) × AreAllColumns degree segments (suc n) columns) ⊎ ((source : ℕ) × (source < suc n) × IsStuckSource degree segments source)
        by_next (inl (v, least)) =
            let long = length_push columns v in
            let before = h.one_each in
            inl (columns ++ v ∷ [], record { one_each = omega (arith, long, before); chosen = columns_push degree segments columns v h.chosen least })
        by_next (inr none) = inr (n, omega arith, record { columns = columns; before = h; none = none })

-- within the bound none is stuck
pub columns_exist : (degree sources listed size : ℕ) (segments : List (List ℕ)) → 1 ≤ degree → AreWithin listed size segments
    → (ListSources segments → listed * 2 ^ (size - 1) < 2 ^ degree) → (columns : List ℕ) × AreAllColumns degree segments sources columns
columns_exist degree sources listed size segments some within more =
    ⊎_elim (λ all. all)
    (λ stuck.
    let few = stuck_bound degree stuck.0 listed size segments some stuck.2 within in
    let many = more (stuck_listed degree stuck.0 segments some stuck.2) in
    absurd (omega (arith, few, many))) (columns_or_stuck degree segments sources)
