use Rattle.std.proofs.Common.{arith, ◌<◌, ◌≤◌, List, Bool, ap, ◌∙◌, sym, subst, length}
use Rattle.std.proofs.lemmas.List.Elements.{recursion_from_All}
use Rattle.std.specs.List.{AllByRecursion}
use Rattle.bb_base.specs.Run.{Meets}
use Rattle.bb_eqn.specs.Values.{bits_at}
use Rattle.bb_eqn.proofs.Evaluated.{evaluated, evaluated_end, evaluated_met, evaluated_kept}
use Rattle.bb_eqn.proofs.gate.evaluate.Goals as goal

pub returns-clause-met : goal.returns-clause-met
returns-clause-met c =
    let past : length c.args.gates.now ≤ c.loop-gate.gate-index = omega arith in
    let end = evaluated_end c.loop-gate.gate-index c.args.gates.now c.loop-gate.values (evaluated c.args.gates.now c.args.values.now) past c.loop-gate.invariant.so_far in
    subst (λ (v : List Bool). AllByRecursion (Meets (bits_at v)) c.args.gates.now) (sym end)
    (evaluated_met c.args.gates.now c.args.values.now (recursion_from_All (λ g. g.out < length c.args.values.now) c.args.gates.now c.requires.drives) c.requires.first)

pub returns-clause-kept : goal.returns-clause-kept
returns-clause-kept c = λ net none.
    let past : length c.args.gates.now ≤ c.loop-gate.gate-index = omega arith in
    let end = evaluated_end c.loop-gate.gate-index c.args.gates.now c.loop-gate.values (evaluated c.args.gates.now c.args.values.now) past c.loop-gate.invariant.so_far in
    ap (λ (v : List Bool). bits_at v net) end ∙ evaluated_kept c.args.gates.now c.args.values.now net none
