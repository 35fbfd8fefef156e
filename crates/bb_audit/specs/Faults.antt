-- The first rule that files fail, and the place at which they first do.
use Rattle.std.specs.Prelude.{◌≡◌, ℕ, ◌<◌, ◌-◌, ◌^◌, List, min}
use Rattle.bb_base.specs.Named.{Named, IsNamed, IsByBits}
use Rattle.bb_net.specs.Sites.{sited}
use Rattle.bb_terms.specs.Rules.{FailsAt}
use Rattle.bb_terms.specs.Valid.{ValidValue}
use Rattle.bb_written.specs.Written.{written}
use Rattle.bb_forms.specs.declared.signature.Signature.{Signature}
use Rattle.bb_audit.specs.Audited.{Audited}
use Rattle.bb_audit.specs.Certified.{FirstDiffersIn, IsFirstApart, IsFirstWithoutDuals}
use Rattle.bb_alike.specs.Alike.{NetlistsDifferAt}
use Rattle.bb_audit.specs.Signed.{AreSessionSignatures}
use Rattle.bb_audit.specs.Passing.{AuditRule, Planned, Segments, Duals, Drivers, Signatures, audit_number, IsPlanWithSegments, FilesMeet}

-- the netlist that should have been written, its nets numbered by variables and from left to right
pub record IsToBeWritten (f : Audited) (w : Named) : Type 0 where
  pub named : IsNamed w
  pub is : sited w ≡ written f.original f.plan
  pub by_bits : IsByBits w

-- The files fail the rule, first at this place: for the plan's rules that of the plan; a line of the certificate; the cell of an
-- observer; a net of the netlist that should have been written, counted from 1; a session.
abbrev pub FailsFirstAt : Audited → AuditRule → ℕ → Type 0
FailsFirstAt f (Planned rule) place = FailsAt f.original.netlist f.plan rule place
FailsFirstAt f Segments place = (valid : ValidValue) × IsPlanWithSegments f valid × FirstDiffersIn valid f.certificate place
FailsFirstAt f Duals place = IsFirstWithoutDuals f.plan f.certificate.segments place
FailsFirstAt f Drivers place = (w : Named) × IsToBeWritten f w × NetlistsDifferAt w f.written place
FailsFirstAt f Signatures place = (should : List (List Signature)) × AreSessionSignatures f.original.netlist f.plan should × IsFirstApart f.signatures should place

-- the rule of this number is the first that the files fail, and this is the first place at which they do, or 2^32 - 1 where that is less
pub record IsAuditFault (f : Audited) (number place : ℕ) : Type 0 where
  pub rule : AuditRule
  pub number_is : number ≡ audit_number rule
  pub before : (earlier : AuditRule) → audit_number earlier < number → FilesMeet f earlier
  pub exact : ℕ
  pub fails : FailsFirstAt f rule exact
  pub capped : place ≡ min (2 ^ 32 - 1) exact
