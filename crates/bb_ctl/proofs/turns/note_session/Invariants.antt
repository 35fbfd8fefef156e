use Rattle.std.proofs.Common.{take}
use Rattle.bb_ctl.proofs.TurnLemmas.{AreNoted}
use Rattle.bb_ctl.proofs.turns.note_session.Given as goal

abbrev pub invariant-registers : goal.invariant-registers
invariant-registers l = AreNoted l.s (take l.r-index l.session) l.fn.turns l.turns
