use Rattle.std.proofs.Common.{◌∙◌, ap, sym, subst, map, length}
use Rattle.bb_base.specs.Order.{IsOrder}
use Rattle.bb_base.specs.Levels.{depth_in, number_in}
use Rattle.bb_netlist.proofs.OrderLemmas.{AreKeys, sorted_order, all_by_depth}
use Rattle.bb_netlist.proofs.order.sort_gates.Goals as goal

pub returns : goal.returns
returns c =
    let depth = depth_in c.args.depths.now in
    let gates = c.args.gates.now in
    let keys : AreKeys gates depth c.in_ok-keys.keys.items = record { few = c.requires.fit.few; long = c.in_ok-keys.ensures.long; each = c.in_ok-keys.ensures.each } in
    let by_depth = all_by_depth (length c.args.depths.now) gates depth c.requires.fit c.requires.by_depth c.requires.all in
    let order = sorted_order (length c.args.depths.now) gates depth c.in_ok-keys.keys.items c.sort_unstable.new.self.items c.requires.fit c.requires.by_depth by_depth keys
    c.sort_unstable.ensures.permutation c.sort_unstable.ensures.sorted in
    subst (IsOrder gates) (sym (c.in_ok-gates.ensures ∙ ap (map number_in) c.deref.ensures.value)) order
