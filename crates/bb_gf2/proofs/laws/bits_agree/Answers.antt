use Rattle.bb_gf2.proofs.Codes.{code_xor_state}
use Rattle.bb_gf2.proofs.BitLaws.{from_bits-bits, bits-from_bits, parity_of_bits-bits, code_of_bits-bits}
use Rattle.bb_gf2.proofs.laws.bits_agree.Goals as goal

pub returns-clause-value : goal.returns-clause-value
returns-clause-value c = from_bits-bits

pub returns-clause-bits : goal.returns-clause-bits
returns-clause-bits c = bits-from_bits

pub returns-clause-parity : goal.returns-clause-parity
returns-clause-parity c = parity_of_bits-bits

pub returns-clause-code : goal.returns-clause-code
returns-clause-code c = code_of_bits-bits

pub returns-clause-linear : goal.returns-clause-linear
returns-clause-linear c = code_xor_state
