-- What is made passes.
use Rattle.std.proofs.Common.{ℕ, ◌≤◌, List, refl, sym, subst}
use Rattle.bb_base.specs.Variables.{bit_count}
use Rattle.bb_base.specs.Named.{Named, IsNamed}
use Rattle.bb_normal.proofs.Mirroring.{itself}
use Rattle.bb_terms.specs.Plan.{observers}
use Rattle.bb_terms.specs.Signatures.{AreSignatures, IsSigned}
use Rattle.bb_terms.specs.Valid.{ValidValue}
use Rattle.bb_words.specs.declared.command.Settings.{Settings}
use Rattle.bb_make.specs.Files.{signed_sessions, certificate_of}
use Rattle.bb_make.specs.Artifacts.{ArtifactsValue, AreArtifacts}
use Rattle.bb_audit.specs.Audited.{Audited, audited}
use Rattle.bb_audit.specs.Passing.{AuditRule, Planned, Segments, Duals, Drivers, Signatures, FilesMeet}
use Rattle.bb_passing.specs.Passing.{PassAs}
use Rattle.bb_passing.proofs.Formed.{formed_plan, formed_signatures, formed_certificate}
use Rattle.bb_passing.proofs.Listed.{cells_listed, duals_listed, registers_listed, values_listed}

module _ (a : Named) (order : List ℕ) (settings : Settings) (made : ArtifactsValue) (is : IsNamed a) (few : bit_count a.variables ≤ 2097152) (h : AreArtifacts a order settings made) where
  abbrev files : Audited
  files = audited a h.written_as h.plan (signed_sessions h.plan.sessions h.signatures) (certificate_of h.plan h.segments)

  abbrev with_segments : ValidValue
  with_segments = record { plan = h.plan; segments = h.segments }

  meets : (rule : AuditRule) → FilesMeet files rule
  meets (Planned rule) = h.valid.meets rule
  meets Segments = (
    with_segments,
    record { valid_for = record { plan_valid = h.valid; each = h.segments_are }; plan = refl },
    record { period = refl; cells = cells_listed a.netlist h.plan (observers h.plan) h.segments h.segments_are },
  )
  meets Duals = duals_listed a.netlist h.plan h.valid (observers h.plan) h.segments h.segments_are
  meets Drivers = itself a h.written_as h.plan h.woven.sites
  meets Signatures = record {
    registers = registers_listed (IsSigned a.netlist h.plan) h.plan.sessions h.signatures h.signed;
    values = subst (AreSignatures a.netlist h.plan) (sym (values_listed (IsSigned a.netlist h.plan) h.plan.sessions h.signatures h.signed)) h.signed;
  }

  pub passing : (f : Audited) × PassAs a made f
  passing = (
    files,
    record {
      original = refl;
      netlist = h.denotes;
      plan = formed_plan a h.plan is few h.valid;
      schedule = h.schedule;
      listed = formed_signatures a h.plan is few h.valid h.signatures h.signed;
      signatures = h.signature_file;
      certified = formed_certificate a h.plan is few h.valid h.segments h.segments_are;
      certificate = h.certificate;
      passes = record { meets = meets };
    },
  )
