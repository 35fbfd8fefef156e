use Rattle.std.proofs.Common.{arith}
use Rattle.bb_reg.proofs.LineLemmas.{stands_in}
use Rattle.bb_reg.proofs.lines.leaves_from.Goals as goal

pub unreachable-requires : goal.unreachable-requires
unreachable-requires c =
    let w = c.in-Err.ensures.wide in
    let few = c.requires.narrow w.1.from w.0 (stands_in c.args.netlist.now.gates c.args.start w.1.from w.1.stands) w.1.are in
    omega (arith, few, w.2, w.3)
