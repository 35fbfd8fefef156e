-- A plan's signatures and its certificate as their files say them (this project's own).
use Rattle.std.specs.Prelude.{ℕ, ◌^◌, List, map, zip}
use Rattle.bb_terms.specs.Plan.{PlanValue}
use Rattle.bb_terms.specs.Valid.{SegmentValue}
use Rattle.bb_forms.specs.declared.signature.Signature.{Signature}
use Rattle.bb_forms.specs.CertificateText.{CertificateSegmentValue, CertificateValue}

-- the registers that compact in a session, each with its signature
abbrev pub signed_session : List ℕ → List ℕ → List Signature
signed_session registers values = map (λ s. record { register = s.0; value = s.1 }) (zip registers values)

-- all sessions, each by its registers, with their signatures
abbrev pub signed_sessions : List (List ℕ) → List (List ℕ) → List (List Signature)
signed_sessions sessions signatures = map (λ s. signed_session s.0 s.1) (zip sessions signatures)

-- a segment with the dual of each leaf beside its source cell
abbrev pub certified : SegmentValue → CertificateSegmentValue
certified segment = record { cell = segment.cell; pairs = zip segment.leaves segment.duals }

-- the certificate of a plan with these segments: its walk takes all states
abbrev pub certificate_of : PlanValue → List SegmentValue → CertificateValue
certificate_of p segments = record { period = 2 ^ p.degree; segments = map certified segments }
