use Rattle.std.proofs.Common.{arith, ◌≡◌, ◌<◌, ◌∙◌, ap, sym, ℕ, List, slice_get, slice_index, Some, length}
use Rattle.std.proofs.lemmas.Grind.{common_steps}
use Rattle.std.proofs.lemmas.Option.{gets, slice_get_within}
use Rattle.bb_base.specs.Net.{Gate}
use Rattle.bb_base.specs.Levels.{depth_in, key_at}
use Rattle.bb_netlist.proofs.OrderLemmas.{valued_more}
use Rattle.bb_netlist.proofs.order.keys_of.Goals as goal

pub gates-preserved : goal.gates-preserved
gates-preserved c =
    let i = c.gates.number in
    let f = c.index-gates-number.result in
    let long : length c.gates.keys.items ≡ i = c.gates.invariant.long in
    let at : slice_get c.args.gates.now i ≡ Some f = grind (arith, gets, common_steps) in
    let value : ℕ → Gate ℕ → ℕ = λ h g. key_at (depth_in c.args.depths.now g.out) h in
    let keyed = c.key_of.ensures ∙ ap (λ k. key_at (depth_in c.args.depths.now f.out) k) (sym long) in
    let more = valued_more c.gates.keys.items c.args.gates.now value c.key_of.result f
    (λ h g small there. c.gates.invariant.each h g (omega (arith, small, long)) there) (ap (slice_get c.args.gates.now) long ∙ at) keyed in
    record {
      long = grind (arith, common_steps);
      each = λ h g small there. ap (λ (xs : List ℕ). slice_index xs h) c.in_ok-push.ensures.items ∙ more h g (omega (arith, small, long)) there;
    }

pub returns-clause-each : goal.returns-clause-each
returns-clause-each c = λ h g at.
    let small : h < length c.args.gates.now = slice_get_within c.args.gates.now h g at in
    c.gates.invariant.each h g (omega (arith, small, c.gates-test.false)) at
