use Rattle.std.proofs.Common.{◌≡◌, map, take, slice_index}
use Rattle.bb_reg.proofs.scheduling.sessions_of.Given as goal

abbrev pub invariant-groups : goal.invariant-groups
invariant-groups l = l.sessions.items ≡ map (map (slice_index l.numbers)) (take l.group-index l.groups)
