use Rattle.bb_net.proofs.Designs.{same_design}
use Rattle.bb_net.proofs.laws.sites_are_designs.Goals as goal

pub returns : goal.returns
returns c = same_design
