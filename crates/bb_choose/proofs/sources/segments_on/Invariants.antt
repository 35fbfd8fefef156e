use Rattle.std.proofs.Common.{◌≡◌, map, slice_index, take}
use Rattle.bb_code.specs.Segments.{sources_of}
use Rattle.bb_choose.proofs.sources.segments_on.Given as goal

abbrev pub invariant-lines : goal.invariant-lines
invariant-lines l = sources_of l.segments.items ≡ map (map (slice_index l.numbers)) (map (λ v. v.items) (take l.leaves-index l.lines))
