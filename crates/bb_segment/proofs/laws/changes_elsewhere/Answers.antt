use Rattle.bb_segment.proofs.ChangeLemmas.{elsewhere}
use Rattle.bb_segment.proofs.laws.changes_elsewhere.Goals as goal

pub returns : goal.returns
returns c = λ gates others stop start f bits bit is apart. elsewhere gates others stop f bits bit is start apart
