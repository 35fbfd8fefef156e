use Rattle.bb_selftest.proofs.Agreement.{segments_agree}
use Rattle.bb_selftest.proofs.walk_laws.segments_agree.Goals as goal

pub returns : goal.returns
returns c = λ a p stop i cell start fits kinds served stops at begins. segments_agree a p fits kinds served stop stops i cell start at begins
