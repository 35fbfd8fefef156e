use Rattle.bb_canon.proofs.Designs.{one_design}
use Rattle.bb_canon.proofs.laws.one_design.Goals as goal

pub returns : goal.returns
returns c = one_design
