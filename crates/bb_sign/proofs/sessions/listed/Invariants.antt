use Rattle.std.proofs.Common.{◌≡◌, map, take}
use Rattle.bb_sign.proofs.sessions.listed.Given as goal

abbrev pub invariant-sessions : goal.invariant-sessions
invariant-sessions l = map (λ list. list.items) l.lists.items ≡ take l.session-index l.sessions
