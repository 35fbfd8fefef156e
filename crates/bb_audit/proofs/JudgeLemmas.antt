-- The rules in their order: what a rule's failing says once those before it are met, and what all of them give.
use Rattle.std.proofs.Common.{arith, ◌≡◌, ℕ, ◌<◌, ◌≤◌, ◌-◌, ◌^◌, min, Err, sym, subst, ◌∙◌}
use Rattle.std.specs.Result.{IsErrOf}
use Rattle.bb_audit.specs.declared.fault.AuditFault.{AuditFault}
use Rattle.bb_audit.specs.declared.fault.AuditFault.TheVariants.{Refused}
use Rattle.bb_base.specs.Named.{IsNamed}
use Rattle.bb_ctl.specs.OwnNames.{HasOwnNames}
use Rattle.bb_terms.specs.Rules.{Rule, Frame, Registers, Kinds, Apart, Served, Pure, Sessions, Compacted, Room, Columns, Widths, Conflicts, Codes, Period, rule_number, Holds}
use Rattle.bb_terms.specs.Valid.{ValidValue, IsValidPlan}
use Rattle.bb_plan.specs.Answered.{IsAnsweredFault}
use Rattle.bb_selftest.specs.SelfTest.{IsSelfTest}
use Rattle.bb_selftest.proofs.Promise.{self_test}
use Rattle.bb_audit.specs.Audited.{Audited}
use Rattle.bb_audit.specs.Certified.{ListsSegments}
use Rattle.bb_audit.specs.Signed.{values_of}
use Rattle.bb_audit.specs.Passing.{AuditRule, Planned, Segments, Duals, Drivers, Signatures, audit_number, IsPlanWithSegments, FilesMeet, AuditPasses}
use Rattle.bb_audit.specs.Faults.{FailsFirstAt, IsAuditFault}

pub last_rule : (rule : Rule) → rule_number rule ≤ 14
last_rule Frame = omega arith
last_rule Registers = omega arith
last_rule Kinds = omega arith
last_rule Apart = omega arith
last_rule Served = omega arith
last_rule Pure = omega arith
last_rule Sessions = omega arith
last_rule Compacted = omega arith
last_rule Room = omega arith
last_rule Columns = omega arith
last_rule Widths = omega arith
last_rule Conflicts = omega arith
last_rule Codes = omega arith
last_rule Period = omega arith

-- a plan's fault is the files'
pub plan_fault : (f : Audited) (number place : ℕ) → IsAnsweredFault f.original.netlist f.plan number place → IsAuditFault f number place
plan_fault f number place h = record {
  rule = Planned h.fault.rule;
  number_is = h.fault.number_is;
  before = before;
  exact = h.exact;
  fails = h.fault.fails;
  capped = h.capped;
}
  where
    low : number ≤ 14
    low = let is = h.fault.number_is in omega (arith, is, last_rule h.fault.rule)

    before : (earlier : AuditRule) → audit_number earlier < number → FilesMeet f earlier
    before (Planned rule) less = h.fault.before rule less
    before Segments less = absurd (omega (arith, less, low))
    before Duals less = absurd (omega (arith, less, low))
    before Drivers less = absurd (omega (arith, less, low))
    before Signatures less = absurd (omega (arith, less, low))

module _ (f : Audited) (valid : ValidValue) (of : IsPlanWithSegments f valid) where
  planned : (rule : Rule) → Holds f.original.netlist f.plan rule
  planned rule = subst (λ p. Holds f.original.netlist p rule) of.plan (of.valid_for.plan_valid.meets rule)

  -- a rule fails that stands behind those that are met
  fault_at : (rule : AuditRule) (exact number place : ℕ) → number ≡ audit_number rule → place ≡ min (2 ^ 32 - 1) exact → ((earlier : AuditRule) → audit_number earlier < audit_number rule → FilesMeet f earlier) → FailsFirstAt f rule exact → IsAuditFault f number place
  fault_at rule exact number place is capped before fails = record { rule = rule; number_is = is; before = λ earlier less. before earlier (omega (arith, less, is)); exact = exact; fails = fails; capped = capped }

  before_segments : (earlier : AuditRule) → audit_number earlier < 15 → FilesMeet f earlier
  before_segments (Planned rule) less = planned rule
  before_segments Segments less = absurd (omega (arith, less))
  before_segments Duals less = absurd (omega (arith, less))
  before_segments Drivers less = absurd (omega (arith, less))
  before_segments Signatures less = absurd (omega (arith, less))

  pub segments_fault : (exact number place : ℕ) → number ≡ 15 → place ≡ min (2 ^ 32 - 1) exact → FailsFirstAt f Segments exact → IsAuditFault f number place
  segments_fault exact number place is capped fails = fault_at Segments exact number place is capped before_segments fails

  module _ (lists : ListsSegments valid f.certificate) where
    before_duals : (earlier : AuditRule) → audit_number earlier < 16 → FilesMeet f earlier
    before_duals (Planned rule) less = planned rule
    before_duals Segments less = (valid, of, lists)
    before_duals Duals less = absurd (omega (arith, less))
    before_duals Drivers less = absurd (omega (arith, less))
    before_duals Signatures less = absurd (omega (arith, less))

    pub duals_fault : (exact number place : ℕ) → number ≡ 16 → place ≡ min (2 ^ 32 - 1) exact → FailsFirstAt f Duals exact → IsAuditFault f number place
    duals_fault exact number place is capped fails = fault_at Duals exact number place is capped before_duals fails

    module _ (duals : FilesMeet f Duals) where
      before_drivers : (earlier : AuditRule) → audit_number earlier < 17 → FilesMeet f earlier
      before_drivers (Planned rule) less = planned rule
      before_drivers Segments less = (valid, of, lists)
      before_drivers Duals less = duals
      before_drivers Drivers less = absurd (omega (arith, less))
      before_drivers Signatures less = absurd (omega (arith, less))

      pub drivers_fault : (exact number place : ℕ) → number ≡ 17 → place ≡ min (2 ^ 32 - 1) exact → FailsFirstAt f Drivers exact → IsAuditFault f number place
      drivers_fault exact number place is capped fails = fault_at Drivers exact number place is capped before_drivers fails

      module _ (drivers : FilesMeet f Drivers) where
        before_signatures : (earlier : AuditRule) → audit_number earlier < 18 → FilesMeet f earlier
        before_signatures (Planned rule) less = planned rule
        before_signatures Segments less = (valid, of, lists)
        before_signatures Duals less = duals
        before_signatures Drivers less = drivers
        before_signatures Signatures less = absurd (omega (arith, less))

        pub signatures_fault : (exact number place : ℕ) → number ≡ 18 → place ≡ min (2 ^ 32 - 1) exact → FailsFirstAt f Signatures exact → IsAuditFault f number place
        signatures_fault exact number place is capped fails = fault_at Signatures exact number place is capped before_signatures fails

        all_met : FilesMeet f Signatures → (rule : AuditRule) → FilesMeet f rule
        all_met signatures (Planned rule) = planned rule
        all_met signatures Segments = (valid, of, lists)
        all_met signatures Duals = duals
        all_met signatures Drivers = drivers
        all_met signatures Signatures = signatures

        pub passes : FilesMeet f Signatures → AuditPasses f
        passes signatures = record { meets = all_met signatures }

-- files that pass are a self-test
pub passing_is_good : (f : Audited) → IsNamed f.original → HasOwnNames f.original → IsNamed f.written → AuditPasses f → IsSelfTest f.original f.written f.plan (values_of f.signatures)
passing_is_good f original own written h =
    let segments = h.meets Segments in
    let valid : IsValidPlan f.original.netlist f.plan = subst (IsValidPlan f.original.netlist) segments.1.plan segments.1.valid_for.plan_valid in
    self_test f.original f.written f.plan (values_of f.signatures) (record { original = original; own_names = own; named = written; plan = valid; mirrors = h.meets Drivers }) (h.meets Signatures).values

-- a refusal that is answered is the one that was made
pub refused_is : {T : Type 0} (fault : AuditFault) (number exact rule place : ℕ) → fault ≡ Refused number (min (2 ^ 32 - 1) exact) → IsErrOf {T = T} (Err fault) (Refused rule place) → (rule ≡ number) × (place ≡ min (2 ^ 32 - 1) exact)
refused_is fault number exact rule place made e =
    let same : fault ≡ Refused rule place = cc e in
    let both : Refused number (min (2 ^ 32 - 1) exact) ≡ Refused rule place = sym made ∙ same in
    let a : number ≡ rule = cc both in
    let b : min (2 ^ 32 - 1) exact ≡ place = cc both in
    (sym a, sym b)
