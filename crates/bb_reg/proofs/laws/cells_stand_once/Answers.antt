use Rattle.bb_reg.proofs.OnceLemmas.{chain_once}
use Rattle.bb_reg.proofs.laws.cells_stand_once.Goals as goal

pub returns : goal.returns
returns c = chain_once
