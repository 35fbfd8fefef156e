use Rattle.std.proofs.Common.{map}
use Rattle.bb_code.proofs.Turning.{AreListingsOf}
use Rattle.bb_code.proofs.listings.listings.Given as goal

abbrev pub invariant-loop-place : goal.invariant-loop-place
invariant-loop-place l = AreListingsOf l.place (map (λ segment. segment.items) l.segments) l.sources (map (λ places. places.items) l.listings.items)
