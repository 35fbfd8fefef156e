use Rattle.bb_gf2.proofs.BitSteps.{bits-next, bits-state, full_on_bits, bits-signature}
use Rattle.bb_gf2.proofs.register_laws.registers_on_bits.Goals as goal

pub returns-clause-next : goal.returns-clause-next
returns-clause-next c = bits-next

pub returns-clause-states : goal.returns-clause-states
returns-clause-states c = bits-state

pub returns-clause-full : goal.returns-clause-full
returns-clause-full c = full_on_bits

pub returns-clause-signature : goal.returns-clause-signature
returns-clause-signature c = bits-signature
