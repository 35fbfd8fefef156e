use Rattle.std.proofs.Common.{◌≡◌, map, take}
use Rattle.bb_reg.specs.LineTables.{reading_in}
use Rattle.bb_reg.proofs.lines.self_reading.Given as goal

abbrev pub invariant-flops : goal.invariant-flops
invariant-flops l = l.reading.items ≡ take l.number (reading_in l.flops (map (λ k. k.items) l.lines))
