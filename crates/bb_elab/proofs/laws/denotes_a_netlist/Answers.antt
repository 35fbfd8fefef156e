use Rattle.bb_elab.proofs.DenotedLaws.{denoted-fits}
use Rattle.bb_elab.proofs.laws.denotes_a_netlist.Goals as goal

pub returns : goal.returns
returns c = λ own m s h. denoted-fits own m h s
