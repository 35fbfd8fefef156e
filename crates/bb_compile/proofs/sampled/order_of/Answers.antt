use Rattle.std.proofs.Common.{ℕ, ap, subst, Err}
use Rattle.bb_base.specs.Net.{Netlist}
use Rattle.bb_base.specs.Order.{IsCycle}
use Rattle.bb_base.proofs.CycleLemmas.{no_cycle}
use Rattle.bb_compile.proofs.sampled.order_of.Goals as goal

pub unreachable-requires : goal.unreachable-requires
unreachable-requires c =
    let nets = c.in-Err-Loop.field-0-0 in
    let cycle = c.in-Err-Loop.ensures.is_cycle nets (ap Err c.in-Err-Loop.field-0-is) in
    no_cycle c.args.named.now.netlist.gates c.requires.0 nets.items c.requires.1 (subst (λ (n : Netlist ℕ). IsCycle n.gates nets.items) c.netlist.ensures.value cycle)
