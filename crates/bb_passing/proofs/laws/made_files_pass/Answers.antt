use Rattle.bb_passing.proofs.Passed.{passing}
use Rattle.bb_passing.proofs.laws.made_files_pass.Goals as goal

pub returns : goal.returns
returns c = passing
