use Rattle.std.proofs.Common.{arith, get_or}
use Rattle.std.proofs.lemmas.Option.{slice_get-get_or}
use Rattle.bb_plan.proofs.Driven.{stands_within}
use Rattle.bb_plan.proofs.standing.apart.Goals as goal

pub first_meeting-requires-clause-within : goal.first_meeting-requires-clause-within
first_meeting-requires-clause-within c = λ k d less.
    let x = get_or c.args.cells.now k d in
    let within = stands_within c.args.netlist.now x.kind x.net c.nets.ensures.netlist (c.requires k x (slice_get-get_or c.args.cells.now k d less)) in
    omega (arith, within, c.deref_mut.ensures.len, c.in_ok-table.ensures.len, c.nets.ensures.count)
