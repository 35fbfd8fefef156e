use Rattle.std.proofs.Common.{◌≡◌, ◌&&◌, not, drop}
use Rattle.std.specs.Prelude.{find}
use Rattle.bb_drive.specs.Origins.{is_marked}
use Rattle.bb_drive.proofs.clock.misread.Given as goal

abbrev pub invariant-bits : goal.invariant-bits
invariant-bits l = find (λ b. not (is_marked l.data_bits b) && is_marked l.reads b) (drop l.bit-index l.bits) ≡ find (λ b. not (is_marked l.data_bits b) && is_marked l.reads b) l.bits
