use Rattle.bb_reg.proofs.FitsLemmas.{cells_fit}
use Rattle.bb_reg.proofs.laws.cells_fit.Goals as goal

pub returns : goal.returns
returns c = cells_fit
