use Rattle.bb_ctl.proofs.TurnLemmas.{AreTurnsUntil}
use Rattle.bb_ctl.proofs.turns.note_sessions.Given as goal

abbrev pub invariant-sessions : goal.invariant-sessions
invariant-sessions l = AreTurnsUntil l.plan l.s l.turns
