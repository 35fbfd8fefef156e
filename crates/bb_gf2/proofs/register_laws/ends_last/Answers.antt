use Rattle.bb_gf2.proofs.Ending.{end_is_last, goes_round}
use Rattle.bb_gf2.proofs.register_laws.ends_last.Goals as goal

pub returns-clause-last : goal.returns-clause-last
returns-clause-last c = end_is_last

pub returns-clause-round : goal.returns-clause-round
returns-clause-round c = goes_round
