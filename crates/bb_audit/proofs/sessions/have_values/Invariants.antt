use Rattle.bb_forms.specs.declared.signature.Signature.{Signature}
use Rattle.bb_alike.proofs.ListLemmas.{AgreeTo}
use Rattle.bb_audit.proofs.sessions.have_values.Given as goal

abbrev pub invariant-values : goal.invariant-values
invariant-values l = AgreeTo (λ (s : Signature). s.value) l.signed l.values l.place
