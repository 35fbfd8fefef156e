use Rattle.std.proofs.Common.{take}
use Rattle.bb_segment.specs.Walks.{HasMore}
use Rattle.bb_segment.proofs.cutting.queue_all.Given as goal

abbrev pub invariant-places : goal.invariant-places
invariant-places l = HasMore l.fn.queue.keys (take l.place-index l.places) l.queue.keys
