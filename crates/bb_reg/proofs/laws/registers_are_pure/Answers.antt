use Rattle.bb_reg.proofs.PureLemmas.{registers_pure}
use Rattle.bb_reg.proofs.laws.registers_are_pure.Goals as goal

pub returns : goal.returns
returns c = registers_pure
