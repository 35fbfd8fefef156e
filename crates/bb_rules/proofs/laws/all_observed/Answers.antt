use Rattle.bb_rules.proofs.CoverLemmas.{all_covered}
use Rattle.bb_rules.proofs.laws.all_observed.Goals as goal

pub returns : goal.returns
returns c = all_covered
