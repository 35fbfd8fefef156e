use Rattle.std.proofs.Common.{◌≡◌, ◌++◌, map, drop}
use Rattle.bb_make.specs.Files.{signed_sessions}
use Rattle.bb_make.proofs.signed.signed_sessions.Given as goal

abbrev pub invariant-sessions : goal.invariant-sessions
invariant-sessions l = map (λ list. list.items) l.lists.items ++ signed_sessions (drop l.place l.sessions) (drop l.place (map (λ list. list.items) l.values)) ≡ signed_sessions l.sessions (map (λ list. list.items) l.values)
