use Rattle.bb_ctl.proofs.CountLemmas.{valid_has_numbers}
use Rattle.bb_ctl.proofs.laws.valid_has_numbers.Goals as goal

pub returns : goal.returns
returns c = valid_has_numbers
