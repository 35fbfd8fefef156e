use Rattle.std.proofs.Common.{arith, ◌≡◌, ◌+◌, List, [], ◌∷◌, length, drop, nat_eq, refl}
use Rattle.std.proofs.lemmas.Grind.{common_steps}
use Rattle.std.proofs.lemmas.Bool.Decides.{nat_tests}
use Rattle.bb_parse.specs.declared.syntax.Step.{Step}
use Rattle.bb_scope.specs.Terminals.{is_last}
use Rattle.bb_width.proofs.sizes.is_at_end.Goals as goal

none_left : (steps : List Step) → nat_eq (length steps) 0 ≡ is_last steps
none_left [] = refl
none_left (s ∷ steps) = grind (arith, nat_tests)

pub returns : goal.returns
returns c =
    let rest = drop (c.args.index + 1) c.args.steps.now in
    let none : nat_eq (length rest) 0 ≡ is_last rest = none_left rest in
    let long : length rest + (c.args.index + 1) ≡ length c.args.steps.now = grind (arith, common_steps, c.requires) in
    grind (arith, nat_tests, none, long)
