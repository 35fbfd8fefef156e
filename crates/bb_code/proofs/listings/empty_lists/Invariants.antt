use Rattle.std.proofs.Common.{◌≡◌, map, replicate, []}
use Rattle.bb_code.proofs.listings.empty_lists.Given as goal

abbrev pub invariant-loop : goal.invariant-loop
invariant-loop l = map (λ places. places.items) l.listings.items ≡ replicate l.counter []
