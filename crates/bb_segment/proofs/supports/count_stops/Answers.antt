use Rattle.std.proofs.Common.{sym, ◌∙◌}
use Rattle.bb_terms.specs.Support.{stop_at}
use Rattle.bb_segment.proofs.WalkLemmas.{item_in}
use Rattle.bb_segment.proofs.SetLemmas.{count_more, count_same}
use Rattle.bb_segment.proofs.supports.count_stops.Goals as goal
use Rattle.bb_segment.proofs.supports.count_stops.Goals.{then-is_stop, else-is_stop}

pub is_stop-requires : goal.is_stop-requires
is_stop-requires c = c.requires c.net-item.result (item_in c.args.nets.now c.nets.net-index c.net-item.result c.nets-test.true c.net-item.is)

pub nets-preserved : goal.nets-preserved
nets-preserved c = elim c.if-is_stop.branch [
  | then-is_stop w ↦ w.count-is ∙ count_more (stop_at c.args.stops.now) c.args.nets.now c.nets.net-index c.net-item.result c.nets.count c.nets-test.true c.net-item.is c.nets.invariant (sym c.is_stop.ensures ∙ w.if-is_stop.true)
  | else-is_stop w ↦ w.count-is ∙ count_same (stop_at c.args.stops.now) c.args.nets.now c.nets.net-index c.net-item.result c.nets.count c.nets-test.true c.net-item.is c.nets.invariant (sym c.is_stop.ensures ∙ w.if-is_stop.false)
]
