use Rattle.bb_rules.proofs.SignatureLemmas.{one_signatures}
use Rattle.bb_rules.proofs.SignedLemmas.{some_signatures}
use Rattle.bb_rules.proofs.laws.signatures_are_one.Goals as goal

pub returns-clause-one : goal.returns-clause-one
returns-clause-one c = λ a p xs ys fits ordered. one_signatures a p fits ordered xs ys

pub returns-clause-some : goal.returns-clause-some
returns-clause-some c = λ a p fits ordered kinds sessions. some_signatures a p fits ordered kinds sessions
