use Rattle.bb_segment.proofs.StepLemmas.{first_cutting}
use Rattle.bb_segment.proofs.cutting.first_state.Goals as goal

pub returns-clause-cutting : goal.returns-clause-cutting
returns-clause-cutting c = λ order width ordered.
    first_cutting c.args.gates.now order width c.args.nets c.in_ok-stops.stops.items c.in_ok-table.table.items c.in_ok-queue.queue.keys c.new.result.items ordered
    c.in_ok-stops.ensures.long c.in_ok-table.ensures.long c.in_ok-stops.ensures.free c.in_ok-table.ensures.own c.in_ok-queue.ensures.all c.in_ok-queue.ensures.only c.new.ensures.items
