use Rattle.std.proofs.Common.{◌≡◌, take}
use Rattle.std.specs.List.{flat_map}
use Rattle.bb_reg.proofs.ends.read.Given as goal

abbrev pub invariant-lines : goal.invariant-lines
invariant-lines l = l.reads.items ≡ flat_map (λ k. k.items) (take l.nets-index l.leaves)
