use Rattle.std.proofs.Common.{arith}
use Rattle.bb_plan.proofs.first.first_misfit.Goals as goal

pub returns-in-Some : goal.returns-in-Some
returns-in-Some c =
    let first = c.in-Some.ensures c.args.netlist.now in
    let within = first.0 in
    (omega (arith, within), first.1)
