use Rattle.std.proofs.Common.{◌≡◌, ◌++◌, drop, false}
use Rattle.bb_spell.proofs.Ports.{ports_from}
use Rattle.bb_spell.proofs.line.write_ports.Given as goal

abbrev pub invariant-ports : goal.invariant-ports
invariant-ports l = l.line.items ++ ports_from l.parted (drop l.number l.named.variables) ≡ l.fn.line.items ++ ports_from false l.named.variables
