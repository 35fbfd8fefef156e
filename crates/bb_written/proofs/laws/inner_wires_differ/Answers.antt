use Rattle.bb_written.proofs.Inner.{inner_added, inner_pairs}
use Rattle.bb_written.proofs.laws.inner_wires_differ.Goals as goal

pub returns-clause-added : goal.returns-clause-added
returns-clause-added c = λ a p valid. inner_added a.netlist p valid

pub returns-clause-apart : goal.returns-clause-apart
returns-clause-apart c = λ a p valid. inner_pairs a.netlist p valid
