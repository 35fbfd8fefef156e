use Rattle.bb_choose.proofs.ConflictRules.{conflicts_meet}
use Rattle.bb_choose.proofs.SessionRules.{compacted, sessions_meet}
use Rattle.bb_choose.proofs.sessions.chosen_sessions_meet_the_rules.Goals as goal

pub returns-clause-sessions : goal.returns-clause-sessions
returns-clause-sessions c a cuts most p cuts_are some small h = sessions_meet a cuts most p cuts_are small h

pub returns-clause-compacted : goal.returns-clause-compacted
returns-clause-compacted c a cuts most p cuts_are some h = compacted a cuts most p h

pub returns-clause-conflicts : goal.returns-clause-conflicts
returns-clause-conflicts c a cuts most p cuts_are some h = conflicts_meet a cuts most p cuts_are h
