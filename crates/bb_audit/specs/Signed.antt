-- Signatures as a file lists them, session by session.
use Rattle.std.specs.Prelude.{◌≡◌, ℕ, List, map}
use Rattle.bb_base.specs.Net.{Netlist}
use Rattle.bb_terms.specs.Plan.{PlanValue}
use Rattle.bb_terms.specs.Signatures.{AreSignatures}
use Rattle.bb_forms.specs.declared.signature.Signature.{Signature}

abbrev pub registers_of : List (List Signature) → List (List ℕ)
registers_of sessions = map (λ session. map (λ s. s.register) session) sessions

abbrev pub values_of : List (List Signature) → List (List ℕ)
values_of sessions = map (λ session. map (λ s. s.value) session) sessions

-- rule 18: the registers of each session in its order, each with its signature
pub record AreSessionSignatures (a : Netlist ℕ) (p : PlanValue) (sessions : List (List Signature)) : Type 0 where
  pub registers : registers_of sessions ≡ p.sessions
  pub values : AreSignatures a p (values_of sessions)
