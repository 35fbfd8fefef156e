use Rattle.std.proofs.Common.{◌≡◌, take, filter}
use Rattle.bb_drive.specs.Origins.{is_marked}
use Rattle.bb_assemble.proofs.numbers.kept_of.Given as goal

abbrev pub invariant-loop-bit : goal.invariant-loop-bit
invariant-loop-bit l = l.kept.items ≡ filter (is_marked l.flags) (take l.bit-index l.bits)
