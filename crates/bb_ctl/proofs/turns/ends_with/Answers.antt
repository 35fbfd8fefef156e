use Rattle.std.proofs.Common.{sym}
use Rattle.bb_ctl.proofs.TurnLemmas.{ends_get}
use Rattle.bb_ctl.proofs.turns.ends_with.Goals as goal

pub returns-in-Some : goal.returns-in-Some
returns-in-Some c = ends_get c.args.s c.in-Some.last.now c.args.sessions.now (sym c.in-Some.ensures.value)
