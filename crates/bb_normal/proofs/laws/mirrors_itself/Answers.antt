use Rattle.bb_normal.proofs.Mirroring.{itself}
use Rattle.bb_normal.proofs.laws.mirrors_itself.Goals as goal

pub returns : goal.returns
returns c = itself
