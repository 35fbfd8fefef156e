use Rattle.std.proofs.Common.{◌≡◌, ◌++◌, drop, map}
use Rattle.std.specs.List.{flat_map}
use Rattle.bb_spell.specs.Canonical.{with_feed}
use Rattle.bb_forms.specs.SignatureText.{signed_from}
use Rattle.bb_forms.proofs.signature_printer.write_sessions.Given as goal

abbrev pub invariant-sessions : goal.invariant-sessions
invariant-sessions l = l.text.items ++ flat_map with_feed (signed_from l.number (map (λ s. s.items) (drop l.number l.sessions))) ≡ l.fn.text.items ++ flat_map with_feed (signed_from 0 (map (λ s. s.items) l.sessions))
