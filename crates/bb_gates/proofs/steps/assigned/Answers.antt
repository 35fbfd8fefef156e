use Rattle.std.proofs.Common.{arith, ◌≡◌, ◌<◌, ◌+◌, ◌^◌, ℕ, false, ◌&&◌, List, [], ◌∷◌, drop, ap}
use Rattle.std.proofs.lemmas.Grind.{common_steps}
use Rattle.bb_base.specs.Variables.{Entry}
use Rattle.bb_parse.specs.declared.syntax.Step.{Step}
use Rattle.bb_scope.specs.Terminals.{is_last}
use Rattle.bb_fault.specs.Work.{Work}
use Rattle.bb_scope.specs.declared.value.Bit.{Bit}
use Rattle.bb_scope.specs.Making.{New, step_made, makes_gates, assigned}
use Rattle.bb_gates.proofs.Growing.{other-grows}
use Rattle.bb_gates.proofs.StepLaws.{none_copied}
use Rattle.bb_gates.proofs.steps.assigned.Goals as goal

-- there are numbers for the nets of a step, where there is one for each net of all
fits :
    (table : List Entry) (targets : List ℕ) (steps ss : List Step) (s : Step) (stack : List (List Bit)) (w all : Work) → steps ≡ s ∷ ss → (is_last ss && makes_gates s) ≡ false
    → (assigned table targets steps stack w).1 ≡ all → all.fresh < 2 ^ 32 → (step_made table New s stack w).1.fresh < 2 ^ 32
fits table targets steps ss s stack w all here other made small =
    omega (arith, ap (λ z. (assigned table targets z stack w).1.fresh) here, ap (λ (v : Work). v.fresh) made, small, other-grows table targets s ss stack w other)

pub step_made-requires-in-loop-index-clause-room : goal.step_made-requires-in-loop-index-clause-room
step_made-requires-in-loop-index-clause-room c =
    let i = c.loop-index.index in
    let steps = c.args.steps.now in
    let s = c.index-steps-index.result in
    let ss = drop (i + 1) steps in
    let here : drop i steps ≡ s ∷ ss = grind (arith, common_steps) in
    let other : (is_last ss && makes_gates s) ≡ false = grind (arith, common_steps) in
    fits c.args.scope.now c.args.targets.now (drop i steps) ss s c.loop-index.stack c.loop-index.work (assigned c.args.scope.now c.args.targets.now steps [] c.args.work.now).1 here other c.loop-index.invariant.made c.requires.room

pub returns : goal.returns
returns c =
    let none = none_copied c.args.targets.now c.loop-index.work in
    grind (arith, common_steps, none, c.in-None.ensures.none, c.loop-index.invariant)
