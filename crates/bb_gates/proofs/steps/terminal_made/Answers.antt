use Rattle.std.proofs.Common.{arith, ◌≡◌, ◌∷◌, []}
use Rattle.std.proofs.lemmas.Grind.{common_steps}
use Rattle.bb_parse.specs.declared.syntax.Step.TheVariants as step
use Rattle.bb_scope.specs.References.{ref_bits}
use Rattle.bb_gates.proofs.StepLaws.{plain_makes}
use Rattle.bb_gates.proofs.steps.terminal_made.Goals as goal

pub returns-in-Ref : goal.returns-in-Ref
returns-in-Ref c =
    let plain : c.args.steps.now ≡ step.Ref c.in-Ref.reference ∷ [] = grind (arith, common_steps) in
    let named : c.in_ok-nets.nets.items ≡ ref_bits c.args.scope.now c.in-Ref.reference = grind (arith, common_steps, c.in_ok-nets.ensures, c.bits.ensures.bits) in
    plain_makes c.args.scope.now c.args.steps.now c.in-Ref.reference c.args.work.now c.in_ok-nets.nets.items plain named
