use Rattle.bb_rules.proofs.CodeLemmas.{vectors_come}
use Rattle.bb_rules.proofs.laws.vectors_come.Goals as goal

pub returns : goal.returns
returns c = vectors_come
