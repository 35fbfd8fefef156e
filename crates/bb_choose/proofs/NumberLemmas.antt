-- The numbers of sources by their nets.
use Rattle.std.proofs.Common.{arith, ◌≡◌, ◌≢◌, ℕ, zero, suc, ◌<◌, ◌+◌, ◌==◌, Bool, true, false, List, [], ◌∷◌, length, map, refl, sym, ap, ◌∙◌, Contains, AllPairs, get_or, slice_get, slice_index, Some, nat_eq}
use Rattle.std.specs.Prelude.{slice_set}
use Rattle.std.specs.List.{AllByRecursion}
use Rattle.std.proofs.lemmas.Bool.Decides.{nat_tests}
use Rattle.std.proofs.lemmas.Grind.{common_steps}
use Rattle.std.proofs.lemmas.Option.{slice_get-get_or, slice_get_within, get_or_from_slice_get}
use Rattle.bb_base.proofs.Contained.{of_all, place_of, contains_at, map_on}
use Rattle.bb_choose.specs.Arranged.{source_number}
use Rattle.bb_choose.specs.Coding.{AreNumbers, AreLeafNets}

-- where nets differ, the number of a net is its place
pub number_is : (nets : List ℕ) (number net : ℕ) → AllPairs (λ x y. x ≢ y) nets → slice_get nets number ≡ Some net → source_number nets net ≡ number
number_is [] number net apart at = absurd (cc at)
number_is (x ∷ nets) zero net apart at =
    let same : x ≡ net = cc at in
    let yes : nat_eq net x ≡ true = grind (arith, nat_tests, same) in
    grind (arith, common_steps, yes)
number_is (x ∷ nets) (suc number) net apart at =
    let low = slice_get_within nets number net at in
    let is : get_or nets number 0 ≡ net = get_or_from_slice_get nets number net 0 at in
    let other : x ≢ net = λ same. apart 0 (suc number) 0 (omega arith) (omega (arith, low)) (same ∙ sym is) in
    let rest = number_is nets number net (λ i j d less small. apart (suc i) (suc j) d (omega (arith, less)) (omega (arith, small))) at in
    by (nat_eq net x) refl other rest
  where
    by : (b : Bool) → nat_eq net x ≡ b → x ≢ net → source_number nets net ≡ number → source_number (x ∷ nets) net ≡ suc number
    by true e other rest = absurd (other (grind (arith, nat_tests, e)))
    by false e other rest = grind (arith, common_steps, e, rest)

-- so the table's numbers of leaves are those
pub numbers_are : (nets numbers leaves : List ℕ) → AllPairs (λ x y. x ≢ y) nets → AreNumbers nets numbers → AllByRecursion (Contains nets) leaves → map (slice_index numbers) leaves ≡ map (source_number nets) leaves
numbers_are nets numbers leaves apart are all = map_on (slice_index numbers) (source_number nets) leaves one
  where
    one : (net : ℕ) → Contains leaves net → slice_index numbers net ≡ source_number nets net
    one net h =
        let at = place_of nets net (of_all (Contains nets) leaves net all h) in
        are at.0 net at.1 ∙ sym (number_is nets at.0 net apart at.1)

pub all_numbers_are : (nets numbers : List ℕ) (lines : List (List ℕ)) → AllPairs (λ x y. x ≢ y) nets → AreNumbers nets numbers → AllByRecursion (AreLeafNets nets) lines → map (map (slice_index numbers)) lines ≡ map (map (source_number nets)) lines
all_numbers_are nets numbers lines apart are all = map_on (map (slice_index numbers)) (map (source_number nets)) lines (λ leaves h. numbers_are nets numbers leaves apart are (of_all (AreLeafNets nets) lines leaves all h).sources)

-- the first numbers are noted
abbrev pub AreNoted : List ℕ → ℕ → List ℕ → Type 0
AreNoted nets n table = (i net : ℕ) → i < n → slice_get nets i ≡ Some net → slice_index table net ≡ i

-- and one more
pub noted_step : (nets : List ℕ) (old new : List ℕ) (n net : ℕ) → AllPairs (λ x y. x ≢ y) nets → AllByRecursion (λ net. net < length old) nets → n < length nets → net ≡ get_or nets n net → new ≡ slice_set old net n
    → AreNoted nets n old → AreNoted nets (n + 1) new
noted_step nets old new n net apart within less is set before i other few at = by (i == n) refl
  where
    inside : other < length old
    inside = of_all (λ net. net < length old) nets other within (contains_at nets i other at)

    by : (b : Bool) → (i == n) ≡ b → slice_index new other ≡ i
    by true e =
        let number : i ≡ n = grind (arith, nat_tests, e) in
        let here_is : slice_get nets n ≡ Some net = slice_get-get_or nets n net less ∙ ap Some (sym is) in
        let both : Some other ≡ Some net = sym at ∙ (ap (slice_get nets) number ∙ here_is) in
        let one : other ≡ net = cc both in
        grind (arith, common_steps, set, one, inside, number)
    by false e =
        let low : i < n = grind (arith, nat_tests, e, few) in
        let old_is = before i other low at in
        let there_is : get_or nets i net ≡ other = get_or_from_slice_get nets i other net at in
        let differs : other ≢ net = λ same. apart i n net low less (there_is ∙ (same ∙ is)) in
        grind (arith, common_steps, nat_tests, set, no (other == net) refl differs, old_is)
      where
        no : (b : Bool) → (other == net) ≡ b → other ≢ net → b ≡ false
        no false e differs = refl
        no true e differs = absurd (differs (grind (arith, nat_tests, e)))
