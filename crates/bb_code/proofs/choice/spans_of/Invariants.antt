use Rattle.std.proofs.Common.{◌≡◌, map, take}
use Rattle.bb_code.specs.Listings.{at_places}
use Rattle.bb_code.specs.Columns.{given_columns}
use Rattle.bb_code.proofs.choice.spans_of.Given as goal

abbrev pub invariant-loop-place : goal.invariant-loop-place
invariant-loop-place l = map (λ rows. rows.items) l.spans.items ≡ map (given_columns l.columns) (at_places (map (λ segment. segment.items) l.segments) (take l.place-index l.places))
