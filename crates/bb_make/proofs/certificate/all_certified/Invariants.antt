use Rattle.std.proofs.Common.{◌≡◌, map, take}
use Rattle.bb_make.specs.Files.{certified}
use Rattle.bb_make.proofs.certificate.all_certified.Given as goal

abbrev pub invariant-segments : goal.invariant-segments
invariant-segments l = l.list.items ≡ map certified (take l.segment-index l.segments)
