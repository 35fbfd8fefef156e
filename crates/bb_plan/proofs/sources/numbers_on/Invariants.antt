use Rattle.std.proofs.Common.{◌≡◌, map, slice_index, take}
use Rattle.bb_plan.proofs.sources.numbers_on.Given as goal

abbrev pub invariant-nets : goal.invariant-nets
invariant-nets l = l.numbers.items ≡ map (slice_index l.sources) (take l.net-index l.nets)
