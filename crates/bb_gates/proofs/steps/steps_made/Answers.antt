use Rattle.std.proofs.Common.{arith, ◌≡◌, ◌<◌, ◌+◌, ◌^◌, ℕ, List, ◌∷◌, drop, ap}
use Rattle.std.proofs.lemmas.Grind.{common_steps}
use Rattle.bb_base.specs.Variables.{Entry}
use Rattle.bb_parse.specs.declared.syntax.Step.{Step}
use Rattle.bb_fault.specs.Work.{Work}
use Rattle.bb_scope.specs.declared.value.Bit.{Bit}
use Rattle.bb_scope.specs.Making.{New, step_made, steps_made}
use Rattle.bb_gates.proofs.Growing.{steps-grow}
use Rattle.bb_gates.proofs.steps.steps_made.Goals as goal

-- there are numbers for the nets of a step, where there is one for each net of all
fits :
    (table : List Entry) (steps : List Step) (i : ℕ) (s : Step) (stack : List (List Bit)) (w : Work) (all : List (List Bit) × Work) → drop i steps ≡ s ∷ drop (i + 1) steps
    → steps_made table (drop i steps) stack w ≡ all → all.1.fresh < 2 ^ 32 → (step_made table New s stack w).1.fresh < 2 ^ 32
fits table steps i s stack w all here made small =
    omega (
      arith,
      ap (λ ss. (steps_made table ss stack w).1.fresh) here,
      ap (λ (z : List (List Bit) × Work). z.1.fresh) made,
      small,
      steps-grow table (drop (i + 1) steps) (step_made table New s stack w).0 (step_made table New s stack w).1,
    )

pub step_made-requires-clause-room : goal.step_made-requires-clause-room
step_made-requires-clause-room c =
    let i = c.loop-step.step-index in
    let steps = c.args.steps.now in
    let s = c.step-item.result in
    let here : drop i steps ≡ s ∷ drop (i + 1) steps = grind (arith, common_steps) in
    fits c.args.scope.now steps i s c.loop-step.stack c.loop-step.work (steps_made c.args.scope.now steps c.args.stack.now c.args.work.now) here c.loop-step.invariant.made c.requires.room
