use Rattle.bb_forms.specs.declared.signature.Signature.{Signature}
use Rattle.bb_alike.proofs.ListLemmas.{AgreeTo}
use Rattle.bb_audit.proofs.sessions.have_registers.Given as goal

abbrev pub invariant-registers : goal.invariant-registers
invariant-registers l = AgreeTo (λ (s : Signature). s.register) l.signed l.registers l.place
