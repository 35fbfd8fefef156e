use Rattle.bb_reg.proofs.ApartLemmas.{register_counts, registers_apart}
use Rattle.bb_reg.proofs.laws.registers_are_apart.Goals as goal

pub returns-clause-cells : goal.returns-clause-cells
returns-clause-cells c = register_counts

pub returns-clause-apart : goal.returns-clause-apart
returns-clause-apart c = registers_apart
