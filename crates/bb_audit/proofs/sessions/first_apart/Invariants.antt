use Rattle.std.proofs.Common.{map}
use Rattle.bb_alike.proofs.ListLemmas.{AgreeTo}
use Rattle.bb_audit.proofs.ListedLemmas.{registers_in, values_in}
use Rattle.bb_audit.proofs.sessions.first_apart.Given as goal

abbrev pub invariant-sessions : goal.invariant-sessions
invariant-sessions l = record {
  registers : AgreeTo registers_in (map (λ session. session.items) l.signed) l.sessions l.place;
  values : AgreeTo values_in (map (λ session. session.items) l.signed) (map (λ list. list.items) l.values) l.place;
}
