use Rattle.std.proofs.Common.{◌≡◌, drop}
use Rattle.bb_drive.specs.Origins.{other_label}
use Rattle.bb_drive.proofs.clock.other_label.Given as goal

abbrev pub invariant-flops : goal.invariant-flops
invariant-flops l = other_label l.clock l.labels (drop l.flop-index l.flops) ≡ other_label l.clock l.labels l.flops
