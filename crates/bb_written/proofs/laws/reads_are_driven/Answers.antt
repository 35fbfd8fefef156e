use Rattle.bb_written.proofs.Driven.{read_is_driven}
use Rattle.bb_written.proofs.laws.reads_are_driven.Goals as goal

pub returns : goal.returns
returns c = λ a p w named valid read. read_is_driven a.netlist p w named.netlist valid read
