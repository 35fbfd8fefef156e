-- The nets for which a table has a column.
use Rattle.std.proofs.Common.{arith, ◌≡◌, ℕ, zero, suc, ◌+◌, ◌<◌, ◌≤◌, Bool, true, false, List, [], ◌∷◌, ◌++◌, length, refl, ap, subst, nat_lt, Option, None, Some, Contains}
use Rattle.std.proofs.lemmas.Bool.Decides.{nat_tests}
use Rattle.std.proofs.lemmas.List.Elements.{Contains-push, Contains-append_left}
use Rattle.std.specs.List.{AllZip}
use Rattle.bb_sign.specs.Bits.{noted_column}
use Rattle.bb_sign.specs.Evaluation.{AreNotedSources}

-- those at a place before which all are listed
abbrev pub AllBefore : List (Option ℕ) → ℕ → List ℕ → Type 0
AllBefore table place nets = (net column : ℕ) → net < place → noted_column table net ≡ Some column → Contains nets net

-- one more is listed
pub all_with : (table : List (Option ℕ)) (place : ℕ) (nets : List ℕ) → AllBefore table place nets → AllBefore table (place + 1) (nets ++ place ∷ [])
all_with table place nets all net column less some = by (nat_lt net place) refl
  where
    by : (b : Bool) → nat_lt net place ≡ b → Contains (nets ++ place ∷ []) net
    by true e = Contains-append_left nets (place ∷ []) net (all net column (grind (arith, nat_tests, e)) some)
    by false e = subst (Contains (nets ++ place ∷ [])) (grind (arith, nat_tests, e, less)) (Contains-push nets place)

-- or has no column
pub all_without : (table : List (Option ℕ)) (place : ℕ) (nets : List ℕ) → noted_column table place ≡ None → AllBefore table place nets → AllBefore table (place + 1) nets
all_without table place nets none all net column less some = by (nat_lt net place) refl
  where
    by : (b : Bool) → nat_lt net place ≡ b → Contains nets net
    by true e = all net column (grind (arith, nat_tests, e)) some
    by false e = let same : net ≡ place = grind (arith, nat_tests, e, less) in absurd (cc (none, some, ap (noted_column table) same))

-- what holds of two lists holds of equal ones
pub with_items : (P : List ℕ → List ℕ → Type 0) {xs ys us vs : List ℕ} → xs ≡ us → ys ≡ vs → P xs ys → P us vs
with_items P {xs} {ys} {us} {vs} same equal here = subst (P us) equal (subst (λ zs. P zs ys) same here)

-- a net with a column is in the table
pub noted_within : (table : List (Option ℕ)) (net column : ℕ) → noted_column table net ≡ Some column → net < length table
noted_within [] net column some = absurd (cc some)
noted_within (o ∷ table) zero column some = omega arith
noted_within (o ∷ table) (suc net) column some = let less = noted_within table net column some in omega (arith, less)

-- at the end of the table all are listed
pub sources_are : (table : List (Option ℕ)) (place : ℕ) (nets columns : List ℕ) → length table ≤ place → AllZip (λ net column. noted_column table net ≡ Some column) nets columns → AllBefore table place nets → AreNotedSources table nets columns
sources_are table place nets columns past noted all = record { noted = noted; all = λ net column some. all net column (let less = noted_within table net column some in omega (arith, past, less)) some }
