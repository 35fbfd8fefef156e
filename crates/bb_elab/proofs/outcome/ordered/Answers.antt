use Rattle.std.proofs.Common.{rules}
use Rattle.bb_elab.proofs.LoopLaws.{first_within}
use Rattle.bb_elab.proofs.outcome.ordered.Goals as goal

pub loop_fault-requires : goal.loop_fault-requires
loop_fault-requires c =
    first_within c.args.named.now c.netlist.result.now c.in-Err-Loop.nets.items c.index.result.now c.netlist.ensures.named c.netlist.ensures.value
    (c.in-Err-Loop.ensures.is_cycle c.in-Err-Loop.nets (search rules)) c.index.ensures
