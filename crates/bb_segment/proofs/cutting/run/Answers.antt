use Rattle.std.proofs.Common.{subst}
use Rattle.bb_segment.specs.Cutting.{IsCutting}
use Rattle.bb_segment.proofs.TableLemmas.{nothing_left}
use Rattle.bb_segment.proofs.cutting.run.Goals as goal

pub returns-clause-cutting : goal.returns-clause-cutting
returns-clause-cutting c =
    subst (λ q. IsCutting c.args.gates.now c.args.order.now c.args.width c.places.state.stops.items c.places.state.table.items q c.places.state.turns.items)
    (nothing_left c.places.state.queue.keys c.in_default.ensures.variant.1) c.places.invariant.cutting
