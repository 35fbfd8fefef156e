use Rattle.std.proofs.Common.{◌≡◌, map, take, slice_index}
use Rattle.bb_reg.proofs.scheduling.picked.Given as goal

abbrev pub invariant-places : goal.invariant-places
invariant-places l = l.own.items ≡ map (slice_index l.numbers) (take l.place-index l.places)
