use Rattle.std.proofs.Common.{◌<◌, ℕ, List, Bool, ap, ◌∙◌, sym, subst, length}
use Rattle.std.proofs.lemmas.List.{length-map}
use Rattle.std.proofs.lemmas.List.Elements.{recursion_from_All}
use Rattle.std.specs.List.{AllByRecursion}
use Rattle.bb_base.specs.Net.{Gate}
use Rattle.bb_base.specs.Run.{Meets}
use Rattle.bb_eqn.specs.Values.{bits_at}
use Rattle.bb_eqn.proofs.Evaluated.{evaluated, evaluated_end, evaluated_met, evaluated_kept}
use Rattle.bb_eqn.specs.Lanes.{lane, in_lane}
use Rattle.bb_eqn.proofs.sequence.eval.Goals as goal

pub returns-clause-met : goal.returns-clause-met
returns-clause-met c = λ t h.
    let gates = c.args.gates.now in
    let before = in_lane t c.args.values.now in
    let end = evaluated_end c.loop-gate.gate-index gates (in_lane t c.loop-gate.values) (evaluated gates before) c.loop-gate-test.false (c.loop-gate.invariant.so_far t h) in
    let drives = recursion_from_All (λ (g : Gate ℕ). g.out < length c.args.values.now) gates c.requires.drives in
    subst (λ (v : List Bool). AllByRecursion (Meets (bits_at v)) gates) (sym end)
    (evaluated_met gates before (subst (λ n. AllByRecursion (λ (g : Gate ℕ). g.out < n) gates) (sym (length-map c.args.values.now (lane t))) drives) c.requires.first)

pub returns-clause-kept : goal.returns-clause-kept
returns-clause-kept c = λ t net h none.
    let gates = c.args.gates.now in
    let before = in_lane t c.args.values.now in
    let end = evaluated_end c.loop-gate.gate-index gates (in_lane t c.loop-gate.values) (evaluated gates before) c.loop-gate-test.false (c.loop-gate.invariant.so_far t h) in
    ap (λ (v : List Bool). bits_at v net) end ∙ evaluated_kept gates before net none
