use Rattle.std.proofs.Common.{arith, ◌≡◌, [], ◌∷◌, drop, map, zip, length, ◌≤◌, ℕ, List, ap, refl, ◌∙◌}
use Rattle.std.specs.Prelude.{Some}
use Rattle.std.proofs.lemmas.Grind.{common_steps}
use Rattle.bb_scope.specs.Kinds.{texts}
use Rattle.bb_gates.proofs.cell_gates.placed_pins.Goals as goal

none_left : {X : Type 0} (xs : List X) (i : ℕ) → length xs ≤ i → drop i xs ≡ []
none_left xs i h = grind (arith, common_steps)

zip_nothing : {X Y : Type 0} (xs : List X) → ◌≡◌ {A = List (X × Y)} (zip xs []) []
zip_nothing [] = refl
zip_nothing (x ∷ xs) = refl

-- where no terminal is left, no pin is left
nothing_left : {X Y Z : Type 0} (f : Y → Z) (xs : List X) (ys : List Y) (i : ℕ) → length ys ≤ i → zip xs (map f (drop i ys)) ≡ []
nothing_left f xs ys i h = ap (λ z. zip xs (map f z)) (none_left ys i h) ∙ zip_nothing xs

pub returns-in_default : goal.returns-in_default
returns-in_default c =
    let none = nothing_left (λ e. Some e) (texts (drop c.loop-place.place c.args.kind.now.places.now)) c.args.terms.now c.loop-place.place c.in_default.ensures.lookup.3 in
    grind (arith, common_steps, none, c.loop-place.invariant)
