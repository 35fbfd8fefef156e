use Rattle.std.proofs.Common.{arith, ◌≡◌, ◌<◌, ◌∙◌, ap, ℕ, List, slice_get, slice_index, Some, length}
use Rattle.std.proofs.lemmas.Grind.{common_steps}
use Rattle.std.proofs.lemmas.Option.{gets, slice_get_within}
use Rattle.bb_base.specs.Net.{Gate}
use Rattle.bb_base.specs.Levels.{depth_in, open_count}
use Rattle.bb_netlist.proofs.WorkLemmas.{waits_more}
use Rattle.bb_netlist.proofs.levels.first_waits.Goals as goal

pub gates-preserved : goal.gates-preserved
gates-preserved c =
    let i = c.gates.gate-index in
    let f = c.gate-item.result in
    let long : length c.gates.waits.items ≡ i = c.gates.invariant.long in
    let at : slice_get c.args.gates.now i ≡ Some f = grind (arith, gets, common_steps) in
    let ins = ap (λ (x : Gate ℕ). open_count (depth_in c.args.depths.now) x.ins) c.gate.view_is in
    let counted = c.open_count.ensures ∙ (ap (open_count (depth_in c.args.depths.now)) c.deref.ensures ∙ ins) in
    let more = waits_more c.gates.waits.items c.args.gates.now (depth_in c.args.depths.now) c.open_count.result f
    (λ h g small there. c.gates.invariant.each h g (omega (arith, small, long)) there) (ap (slice_get c.args.gates.now) long ∙ at) counted in
    record {
      long = grind (arith, common_steps);
      each = λ h g small there. ap (λ (xs : List ℕ). slice_index xs h) c.in_ok-push.ensures.items ∙ more h g (omega (arith, small, long)) there;
    }

pub returns-clause-each : goal.returns-clause-each
returns-clause-each c = λ h g at.
    let small : h < length c.args.gates.now = slice_get_within c.args.gates.now h g at in
    c.gates.invariant.each h g (omega (arith, small, c.gates-test.false)) at
