use Rattle.std.proofs.Common.{◌≡◌, map, take}
use Rattle.bb_terms.specs.declared.wire.Wire.TheVariants.{Ring}
use Rattle.bb_ctl.proofs.registers.rings_of.Given as goal

abbrev pub invariant-sessions : goal.invariant-sessions
invariant-sessions l = l.rings.items ≡ map Ring (take l.session-index l.sessions)
