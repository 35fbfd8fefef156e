-- Independent rows stay independent in another order: each of them has a vector whose code bit is 1 at it alone.
use Rattle.std.proofs.Common.{arith, ◌≡◌, ◌≢◌, ℕ, zero, suc, ◌<◌, ◌==◌, List, [], ◌∷◌, length, AllPairs, Bool, true, false, refl, sym, ap, ◌∙◌, get_or, slice_get, slice_index, Some, Contains}
use Rattle.std.specs.List.Sorted.{IsPermutation}
use Rattle.std.proofs.lemmas.Bool.Decides.{nat_tests, Decides-eqb}
use Rattle.std.proofs.lemmas.List.Sorted.{IsPermutation-sym, Contains-permutation}
use Rattle.std.proofs.lemmas.Map.Keys.{IsDistinct-IsPermutation}
use Rattle.std.proofs.lemmas.Map.Made.{IsDistinct-from_AllPairs, AllPairs-from_IsDistinct}
use Rattle.std.proofs.lemmas.Option.{slice_get_within, slice_get-get_or, get_or_from_slice_get}
use Rattle.std.specs.Prelude.{nat_eq}
use Rattle.bb_base.proofs.Contained.{here, there, place_of, contains_at}
use Rattle.bb_base.proofs.Distinct.{one_place}
use Rattle.bb_base.specs.Parity.{code_bit}
use Rattle.bb_base.specs.Span.{IsIndependent}
use Rattle.bb_base.specs.Dual.{IsDual, AreDuals}
use Rattle.bb_gf2.proofs.Pairing.{duals_from_least}
use Rattle.bb_gf2.proofs.Existence.{duals_exist, independent}

-- the code bit of each row is 1 exactly where the row is this one
abbrev PicksOut : List ℕ → ℕ → ℕ → Type 0
PicksOut rows row d = (other : ℕ) → Contains rows other → code_bit other d ≡ (other == row)

flips : (x y : ℕ) → nat_eq x y ≡ nat_eq y x
flips x y = grind (arith, nat_tests)

-- rows with duals differ
duals_apart : (rows duals : List ℕ) → AreDuals rows duals → AllPairs (λ x y. x ≢ y) rows
duals_apart rows duals are i j d less high same =
    let own = are.dual i (omega (arith, less, high)) i (omega (arith, less, high)) in
    let other = are.dual i (omega (arith, less, high)) j high in
    let first : get_or rows i 0 ≡ get_or rows i d = in_range rows i 0 d (omega (arith, less, high)) in
    let second : get_or rows j d ≡ get_or rows j 0 = in_range rows j d 0 high in
    let yes : (i == i) ≡ true = grind (arith, nat_tests) in
    let no : (j == i) ≡ false = grind (arith, nat_tests, less) in
    let bits : code_bit (get_or rows i 0) (slice_index duals i) ≡ code_bit (get_or rows j 0) (slice_index duals i) = ap (λ x. code_bit x (slice_index duals i)) (first ∙ (same ∙ second)) in
    let never : true ≡ false = sym yes ∙ (sym own ∙ (bits ∙ (other ∙ no))) in
    absurd (cc never)
  where
    in_range : (xs : List ℕ) (k a b : ℕ) → k < length xs → get_or xs k a ≡ get_or xs k b
    in_range [] k a b h = absurd (omega (arith, h))
    in_range (x ∷ xs) zero a b h = refl
    in_range (x ∷ xs) (suc k) a b h = in_range xs k a b (omega (arith, h))

-- where rows differ, one row stands at one place
same_place : (rows : List ℕ) → AllPairs (λ x y. x ≢ y) rows → (i j : ℕ) → i < length rows → j < length rows → (slice_index rows i == slice_index rows j) ≡ (i == j)
same_place rows apart i j low high = by (slice_index rows i == slice_index rows j) refl (i == j) refl
  where
    by : (b : Bool) → (slice_index rows i == slice_index rows j) ≡ b → (d : Bool) → (i == j) ≡ d → (slice_index rows i == slice_index rows j) ≡ (i == j)
    by true e true f = e ∙ sym f
    by false e false f = e ∙ sym f
    by true e false f =
        let same : slice_index rows i ≡ slice_index rows j = grind (arith, nat_tests, e) in
        let one : i ≡ j = one_place (λ x. x) rows 0 apart i j low high same in
        absurd (grind (arith, nat_tests, one, f))
    by false e true f =
        let one : i ≡ j = grind (arith, nat_tests, f) in
        let same : slice_index rows i ≡ slice_index rows j = ap (slice_index rows) one in
        absurd (grind (arith, nat_tests, same, e))

-- so each row has a vector that picks it out
picked_out : (rows duals : List ℕ) → AreDuals rows duals → (row : ℕ) → Contains rows row → (d : ℕ) × PicksOut rows row d
picked_out rows duals are row c = (slice_index duals at.0, picks)
  where
    at : (k : ℕ) × (slice_get rows k ≡ Some row)
    at = place_of rows row c

    picks : PicksOut rows row (slice_index duals at.0)
    picks other h =
        let there = place_of rows other h in
        let low = slice_get_within rows at.0 row at.1 in
        let high = slice_get_within rows there.0 other there.1 in
        let mine : slice_index rows at.0 ≡ row = get_or_from_slice_get rows at.0 row 0 at.1 in
        let its : slice_index rows there.0 ≡ other = get_or_from_slice_get rows there.0 other 0 there.1 in
        let bit = are.dual at.0 low there.0 high in
        let rows_same = same_place rows (duals_apart rows duals are) there.0 at.0 high low in
        let tests : (slice_index rows there.0 == slice_index rows at.0) ≡ (other == row) = λ i. its i == mine i in
        ap (λ x. code_bit x (slice_index duals at.0)) (sym its) ∙ (bit ∙ (sym rows_same ∙ tests))

-- a vector for each row, in the order of the rows
listed : (rows : List ℕ) (P : ℕ → ℕ → Type 0) → ((row : ℕ) → Contains rows row → (d : ℕ) × P row d) → (ds : List ℕ) × (length ds ≡ length rows) × ((k : ℕ) → k < length rows → P (slice_index rows k) (slice_index ds k))
listed [] P h = ([], refl, λ k less. absurd (omega (arith, less)))
listed (row ∷ rows) P h =
    let first = h row (here row rows) in
    let rest = listed rows P (λ x c. h x (there row rows x c)) in
    (first.0 ∷ rest.0, ap suc rest.1, by first.0 first.1 rest.0 rest.2)
  where
    by : (d : ℕ) → P row d → (ds : List ℕ) → ((k : ℕ) → k < length rows → P (slice_index rows k) (slice_index ds k)) → (k : ℕ) → k < suc (length rows) → P (slice_index (row ∷ rows) k) (slice_index (d ∷ ds) k)
    by d p ds rest zero less = p
    by d p ds rest (suc k) less = rest k (omega (arith, less))

-- rows that differ and are picked out are independent
independent_rows : (rows : List ℕ) → AllPairs (λ x y. x ≢ y) rows → ((row : ℕ) → Contains rows row → (d : ℕ) × PicksOut rows row d) → IsIndependent rows
independent_rows rows apart h =
    let all = listed rows (PicksOut rows) h in
    independent rows all.0 (record { one_each = all.1; dual = λ place less other high. dual all.0 all.2 place less other high })
  where
    item : (k : ℕ) → k < length rows → Contains rows (slice_index rows k)
    item k less = contains_at rows k (slice_index rows k) (slice_get-get_or rows k 0 less)

    dual : (ds : List ℕ) → ((k : ℕ) → k < length rows → PicksOut rows (slice_index rows k) (slice_index ds k)) → (place : ℕ) → place < length rows → IsDual rows place (slice_index ds place)
    dual ds picks place less other high = picks place less (slice_index rows other) (item other high) ∙ same_place rows apart other place high less

-- in another order
pub independent_moved : (rows others : List ℕ) → IsPermutation rows others → IsIndependent rows → IsIndependent others
independent_moved rows others moved free =
    let all = duals_exist rows free in
    let are = duals_from_least rows all.0 all.1 in
    let apart = duals_apart rows all.0 are in
    let distinct = IsDistinct-IsPermutation nat_eq flips rows others moved (IsDistinct-from_AllPairs Decides-eqb rows apart) in
    independent_rows others (AllPairs-from_IsDistinct Decides-eqb others distinct)
    (λ row c.
    let d = picked_out rows all.0 are row (Contains-permutation others rows row (IsPermutation-sym rows others moved) c) in
    (d.0, λ other h. d.1 other (Contains-permutation others rows other (IsPermutation-sym rows others moved) h)))
