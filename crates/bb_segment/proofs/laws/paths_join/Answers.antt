use Rattle.bb_terms.proofs.PathLemmas.{paths_join, path_renamed, leaf_renamed}
use Rattle.bb_segment.proofs.laws.paths_join.Goals as goal

pub returns-clause-join : goal.returns-clause-join
returns-clause-join c = paths_join

pub returns-clause-renamed : goal.returns-clause-renamed
returns-clause-renamed c = path_renamed

pub returns-clause-leaves : goal.returns-clause-leaves
returns-clause-leaves c = leaf_renamed
