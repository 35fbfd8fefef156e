use Rattle.bb_segment.proofs.PlaceLemmas.{number_low, stands_read}
use Rattle.bb_segment.proofs.cutting.gate_at.Goals as goal

pub bounds-gates-order : goal.bounds-gates-order
bounds-gates-order c = number_low c.args.gates.now c.args.order.now c.args.place c.requires.order c.requires.place

pub returns : goal.returns
returns c = stands_read c.args.gates.now c.args.order.now c.args.place c.index-gates-order.result c.requires.order c.requires.place c.index-gates-order.is
