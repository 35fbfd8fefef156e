use Rattle.std.proofs.Common.{◌≡◌, map, slice_index, take}
use Rattle.bb_choose.proofs.sources.numbers_on.Given as goal

abbrev pub invariant-nets : goal.invariant-nets
invariant-nets l = l.on_nets.items ≡ map (slice_index l.numbers) (take l.net-index l.nets)
