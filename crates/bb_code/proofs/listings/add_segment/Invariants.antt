use Rattle.std.proofs.Common.{◌≡◌, length, map, take}
use Rattle.bb_code.proofs.Turning.{HasPlaces}
use Rattle.bb_code.proofs.listings.add_segment.Given as goal

abbrev pub invariant-loop-source : goal.invariant-loop-source
invariant-loop-source l = record {
  count : length l.listings.items ≡ length l.initial.listings.items;
  places : HasPlaces (map (λ places. places.items) l.initial.listings.items) (map (λ places. places.items) l.listings.items) (take l.source-index l.segment) l.place;
}
