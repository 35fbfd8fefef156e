use Rattle.bb_terms.proofs.StopLemmas.{stops_are, stops_have_sources}
use Rattle.bb_rules.proofs.laws.stops_agree.Goals as goal

pub returns-clause-stops : goal.returns-clause-stops
returns-clause-stops c = stops_are

pub returns-clause-sources : goal.returns-clause-sources
returns-clause-sources c = stops_have_sources
