use Rattle.std.proofs.Common.{◌<◌, ℕ, Contains}
use Rattle.bb_segment.proofs.cutting.first_queue.Given as goal

abbrev pub invariant-places : goal.invariant-places
invariant-places l = record {
  all : (place : ℕ) → place < l.place → Contains l.queue.keys place;
  only : (place : ℕ) → Contains l.queue.keys place → place < l.place;
}
