use Rattle.bb_terms.proofs.StopLemmas.{leaf_within, source_at}
use Rattle.bb_rules.proofs.SourceLemmas.{one_source}
use Rattle.bb_rules.proofs.laws.one_source.Goals as goal

pub returns-clause-within : goal.returns-clause-within
returns-clause-within c = λ a p i net d fits kinds at leaf. leaf_within a p d net fits (kinds i d at) leaf

pub returns-clause-some : goal.returns-clause-some
returns-clause-some c = λ a p i net d fits kinds served at leaf. source_at a p net fits served (leaf_within a p d net fits (kinds i d at) leaf) leaf.leaf.1

pub returns-clause-one : goal.returns-clause-one
returns-clause-one c = one_source
