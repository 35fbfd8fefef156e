use Rattle.std.proofs.Common.{◌≡◌, ◌&&◌, drop}
use Rattle.std.specs.Prelude.{find}
use Rattle.bb_drive.specs.Origins.{entry_at, is_marked, is_unlabelled}
use Rattle.bb_drive.proofs.clock.unfed_pin.Given as goal

abbrev pub invariant-bits : goal.invariant-bits
invariant-bits l = find (λ b. is_marked l.pins b && is_unlabelled (entry_at l.labels b)) (drop l.bit-index l.bits) ≡ find (λ b. is_marked l.pins b && is_unlabelled (entry_at l.labels b)) l.bits
