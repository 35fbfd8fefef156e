use Rattle.std.proofs.Common.{arith}
use Rattle.bb_segment.proofs.TableLemmas.{insert_adds, queued_all, queued_only}
use Rattle.bb_segment.proofs.cutting.first_queue.Goals as goal

pub places-preserved : goal.places-preserved
places-preserved c = let adds = insert_adds c.places.queue.keys c.insert.new.self.keys c.places.place c.in_ok-insert.ensures.keys in record {
  all = queued_all c.places.queue.keys c.insert.new.self.keys c.places.place adds c.places.invariant.all;
  only = queued_only c.places.queue.keys c.insert.new.self.keys c.places.place adds c.places.invariant.only;
}

pub returns-clause-only : goal.returns-clause-only
returns-clause-only c = λ place h. let low = c.places.invariant.only place h in let end = c.places.auto.place-end in omega (arith, low, end)
