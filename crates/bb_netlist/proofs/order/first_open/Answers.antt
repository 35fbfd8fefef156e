use Rattle.std.proofs.Common.{◌≡◌, ◌<◌, sym, None, length, subst}
use Rattle.bb_base.specs.Levels.{depth_in}
use Rattle.bb_netlist.proofs.OrderLemmas.{none_of}
use Rattle.bb_netlist.proofs.order.first_open.Goals as goal

pub returns-then-is_none-clause-first : goal.returns-then-is_none-clause-first
returns-then-is_none-clause-first c = λ n e.
    let same : c.nets.net ≡ n = cc e in
    record {
      within = subst (λ k. k < length c.args.depths.now) same c.nets-test.true;
      here = subst (λ k. depth_in c.args.depths.now k ≡ None) same (none_of (depth_in c.args.depths.now c.nets.net) c.if-is_none.ensures);
      before = λ m less none. c.nets.invariant m (subst (λ k. m < k) (sym same) less) none;
    }
