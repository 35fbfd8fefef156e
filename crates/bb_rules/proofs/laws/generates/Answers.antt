use Rattle.bb_rules.proofs.SessionLemmas.{observes, apart, generated}
use Rattle.bb_rules.proofs.laws.generates.Goals as goal

pub returns-clause-observes : goal.returns-clause-observes
returns-clause-observes c = observes

pub returns-clause-apart : goal.returns-clause-apart
returns-clause-apart c = apart

pub returns-clause-leaves : goal.returns-clause-leaves
returns-clause-leaves c = generated
