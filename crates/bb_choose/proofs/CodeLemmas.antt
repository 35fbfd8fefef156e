-- The segments of sources are fit to be coded, and what a degree lacks is lacking for the registers.
use Rattle.std.proofs.Common.{arith, ◌≡◌, ◌≢◌, ℕ, suc, ◌<◌, ◌≤◌, Bool, true, false, List, [], ◌∷◌, length, map, filter, sym, ap, subst, ◌∙◌, Contains, AllPairs, slice_get, slice_index, Some, cond}
use Rattle.std.specs.Option.{option_map}
use Rattle.std.specs.List.{AllByRecursion, flat_map}
use Rattle.std.proofs.lemmas.Option.{slice_get_within, slice_get-map, get_or_from_slice_get}
use Rattle.bb_base.proofs.Contained.{of_all, to_all, place_of, contains_at}
use Rattle.bb_base.proofs.Lists.{all_map_back, length_map, get_some}
use Rattle.bb_segment.proofs.SetLemmas.{distinct_of, up_apart}
use Rattle.bb_code.specs.Segments.{IsSegment}
use Rattle.bb_terms.specs.declared.plan.Cell.{Cell}
use Rattle.bb_terms.specs.Kinds.{is_source}
use Rattle.bb_terms.specs.Plan.{RegisterValue}
use Rattle.bb_reg.specs.Chosen.{GroupedValue}
use Rattle.bb_choose.specs.Arranged.{source_nets, sources_of_chain, source_number, segments_of, source_count}
use Rattle.bb_choose.specs.Coding.{AreLeafNets, AreNumbers, AreSourcesOf, CanTakeColumns}
use Rattle.bb_choose.proofs.NumberLemmas.{number_is, all_numbers_are}

pub few_pass : {X : Type 0} (p : X → Bool) (xs : List X) → length (filter p xs) ≤ length xs
few_pass p [] = omega arith
few_pass {X} p (x ∷ xs) = by (p x) (few_pass p xs)
  where
    by : (b : Bool) → length (filter p xs) ≤ length xs → length (cond b (x ∷ filter p xs) (filter p xs)) ≤ suc (length xs)
    by true few = omega (arith, few)
    by false few = omega (arith, few)

-- no more sources than cells
pub sources_few : (registers : List RegisterValue) → length (source_nets registers) ≤ length (flat_map (λ (g : RegisterValue). g.cells) registers)
sources_few registers =
    let cells = flat_map (λ (g : RegisterValue). g.cells) registers in
    let long = length_map (λ (c : Cell). c.net) (sources_of_chain registers) in
    let few = few_pass (λ (c : Cell). is_source c.kind) cells in
    omega (arith, long, few)

-- images under a map that is one to one on the items differ too
map_apart : (f : ℕ → ℕ) (Q : ℕ → Type 0) → ((x y : ℕ) → Q x → Q y → f x ≡ f y → x ≡ y) → (xs : List ℕ) → AllByRecursion Q xs → AllPairs (λ x y. x ≢ y) xs → AllPairs (λ x y. x ≢ y) (map f xs)
map_apart f Q one xs all apart = λ i j d less small same.
    let long = length_map f xs in
    let high : j < length xs = omega (arith, small, long) in
    let low : i < length xs = omega (arith, less, high) in
    let x = get_some xs i low in
    let y = get_some xs j high in
    let first = get_or_from_slice_get (map f xs) i (f x.0) d (slice_get-map f xs i ∙ ap (option_map f) x.1) in
    let second = get_or_from_slice_get (map f xs) j (f y.0) d (slice_get-map f xs j ∙ ap (option_map f) y.1) in
    let both = one x.0 y.0 (of_all Q xs x.0 all (contains_at xs i x.0 x.1)) (of_all Q xs y.0 all (contains_at xs j y.0 y.1)) (sym first ∙ (same ∙ second)) in
    apart i j d less high (get_or_from_slice_get xs i x.0 d x.1 ∙ (both ∙ sym (get_or_from_slice_get xs j y.0 d y.1)))

-- the numbers of leaves are distinct, and each is a source's
segment_fits : (nets leaves : List ℕ) → AllPairs (λ x y. x ≢ y) nets → AreLeafNets nets leaves → IsSegment (length nets) (map (source_number nets) leaves)
segment_fits nets leaves apart are = record {
  below = all_map_back (λ n. n < length nets) (Contains nets) (source_number nets) below leaves are.sources;
  distinct = distinct_of (map (source_number nets) leaves) (map_apart (source_number nets) (Contains nets) one leaves are.sources (up_apart leaves are.ascending));
}
  where
    below : (net : ℕ) → Contains nets net → source_number nets net < length nets
    below net h =
        let at = place_of nets net h in
        let is = number_is nets at.0 net apart at.1 in
        let low = slice_get_within nets at.0 net at.1 in
        omega (arith, is, low)

    one : (x y : ℕ) → Contains nets x → Contains nets y → source_number nets x ≡ source_number nets y → x ≡ y
    one x y h k same =
        let at = place_of nets x h in
        let to = place_of nets y k in
        let places : at.0 ≡ to.0 = sym (number_is nets at.0 x apart at.1) ∙ (same ∙ number_is nets to.0 y apart to.1) in
        let both : Some x ≡ Some y = sym at.1 ∙ (ap (slice_get nets) places ∙ to.1) in
        cc both

pub segments_fit : (grouped : GroupedValue) → AllPairs (λ x y. x ≢ y) (source_nets grouped.registers) → AllByRecursion (AreLeafNets (source_nets grouped.registers)) grouped.leaves → AllByRecursion (IsSegment (source_count grouped)) (segments_of grouped)
segments_fit grouped apart all =
    let nets = source_nets grouped.registers in
    all_map_back (IsSegment (length nets)) (AreLeafNets nets) (map (source_number nets)) (λ leaves are. segment_fits nets leaves apart are) grouped.leaves all

-- leaves are nets
pub leaves_within : (nets : List ℕ) (count : ℕ) (lines : List (List ℕ)) → AllByRecursion (AreLeafNets nets) lines → AllByRecursion (λ net. net < count) nets → AllByRecursion (AllByRecursion (λ net. net < count)) lines
leaves_within nets count lines all within =
    to_all (AllByRecursion (λ net. net < count)) lines
    (λ leaves h. let are = of_all (AreLeafNets nets) lines leaves all h in to_all (λ net. net < count) leaves (λ net k. of_all (λ net. net < count) nets net within (of_all (Contains nets) leaves net are.sources k)))

pub sources_are :
    (grouped : GroupedValue) (count : ℕ) (nets numbers : List ℕ) (segments : List (List ℕ)) → CanTakeColumns count grouped → nets ≡ source_nets grouped.registers → length numbers ≡ count → AreNumbers nets numbers
    → segments ≡ map (map (slice_index numbers)) grouped.leaves → AreSourcesOf grouped nets numbers segments
sources_are grouped count nets numbers segments ready nets_are long are is =
    let own = source_nets grouped.registers in
    let numbers_are = subst (λ ns. AreNumbers ns numbers) nets_are are in
    let segments_are : segments ≡ segments_of grouped = is ∙ all_numbers_are own numbers grouped.leaves ready.apart numbers_are ready.leaves in
    record {
      nets_are = nets_are;
      numbers_are = are;
      within = subst (AllByRecursion (λ net. net < length numbers)) (sym nets_are) (subst (λ k. AllByRecursion (λ net. net < k) own) (sym long) ready.within);
      segments_are = segments_are;
      each = subst (λ ns. AllByRecursion (IsSegment (length ns)) segments) (sym nets_are) (subst (AllByRecursion (IsSegment (source_count grouped))) (sym segments_are) (segments_fit grouped ready.apart ready.leaves));
    }
