use Rattle.std.proofs.Common.{arith, ◌≡◌, ◌≤◌, ◌<◌, ◌∙◌, ℕ, List, [], ◌∷◌, ap, sym, refl, drop, fold, length, map, zip, slice_index_or}
use Rattle.std.specs.Prelude.{Some}
use Rattle.std.proofs.lemmas.Grind.{common_steps}
use Rattle.bb_scope.specs.Names.{steps_names}
use Rattle.bb_scope.specs.Kinds.{kind_value, texts}
use Rattle.bb_scope.proofs.UseLaws.{next_one, next_on}
use Rattle.bb_targets.specs.Marks.{with_mark}
use Rattle.bb_targets.specs.Targets.{out_bits}
use Rattle.bb_targets.proofs.items.mark_places.Goals as goal

none_left : {X : Type 0} (xs : List X) (i : ℕ) → length xs ≤ i → drop i xs ≡ []
none_left xs i h = grind (arith, common_steps)

zip_nothing : {X Y : Type 0} (xs : List X) → ◌≡◌ {A = List (X × Y)} (zip xs []) []
zip_nothing [] = refl
zip_nothing (x ∷ xs) = refl

-- where no terminal is left, no pin is left
nothing_left : {X Y Z : Type 0} (f : Y → Z) (xs : List X) (ys : List Y) (i : ℕ) → length ys ≤ i → zip xs (map f (drop i ys)) ≡ []
nothing_left f xs ys i h = ap (λ z. zip xs (map f z)) (none_left ys i h) ∙ zip_nothing xs

pub returns-in_default : goal.returns-in_default
returns-in_default c =
    let none = nothing_left (λ e. Some e) (texts (drop c.places.place c.args.kind.now.places.now)) c.args.terms.now c.places.place c.in_default.ensures.lookup.3 in
    let bits : [] ≡ out_bits c.args.scope.now (kind_value c.args.kind.now) (zip (texts (drop c.places.place c.args.kind.now.places.now)) (map (λ e. Some e) (drop c.places.place c.args.terms.now))) = ap (out_bits c.args.scope.now (kind_value c.args.kind.now)) (sym none) in
    c.places.invariant.kept ∙ ap (fold with_mark c.args.marks.now) (bits ∙ c.places.invariant.same)

pub mark_driven-requires : goal.mark_driven-requires
mark_driven-requires c =
    let within : c.places.place < length c.args.terms.now = grind (arith, common_steps, c.in-Some.ensures.lookup) in
    let is : c.in-Some.term.now ≡ slice_index_or c.args.terms.now c.places.place c.in-Some.term.now = grind (arith, common_steps, c.in-Some.ensures.lookup) in
    next_one steps_names c.args.scope.now c.args.terms.now c.places.place c.in-Some.term.now c.as_slice.result.now c.places.rest.now c.places.invariant.next is within c.as_slice.ensures

pub places-preserved : goal.places-preserved
places-preserved c =
    let within : c.places.place < length c.args.terms.now = grind (arith, common_steps, c.in-Some.ensures.lookup) in
    let is : c.in-Some.term.now ≡ slice_index_or c.args.terms.now c.places.place c.in-Some.term.now = grind (arith, common_steps, c.in-Some.ensures.lookup) in
    record {
      next =
          next_on steps_names c.args.scope.now c.args.terms.now c.places.place c.in-Some.term.now c.as_slice-in-places.result.now c.places.rest.now c.behind_steps-rest.result.now c.places.invariant.next is within
          c.as_slice-in-places.ensures c.behind_steps-rest.ensures;
      kept = c.places.invariant.kept;
      same = grind (arith, common_steps, c.places.invariant.same, c.in-Some.ensures.lookup, c.eq.ensures, c.if-eq.false);
    }
