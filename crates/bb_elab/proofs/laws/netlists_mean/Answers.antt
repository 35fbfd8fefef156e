use Rattle.bb_elab.proofs.NetlistBits.{netlist-means}
use Rattle.bb_elab.proofs.laws.netlists_mean.Goals as goal

pub returns : goal.returns
returns c = netlist-means
