use Rattle.std.proofs.Common.{◌∙◌, ℕ, ap, sym, subst}
use Rattle.bb_base.specs.Net.{Netlist}
use Rattle.bb_terms.specs.Plan.{PlanValue}
use Rattle.bb_terms.specs.Signatures.{AreSignatures}
use Rattle.bb_forms.specs.ScheduleText.{schedule_text}
use Rattle.bb_make.specs.Artifacts.{IsSummary}
use Rattle.bb_make.specs.Bounds.{HasBounds}
use Rattle.bb_make.proofs.BoundLemmas.{has_bounds, duals_long}
use Rattle.bb_make.proofs.WovenLemmas.{is_written}
use Rattle.bb_make.proofs.job.artifacts_of.Goals as goal

pub summary_of-summary-requires-clause-bounds : goal.summary_of-summary-requires-clause-bounds
summary_of-summary-requires-clause-bounds c = subst HasBounds (sym c.plan-plan.ensures) (has_bounds c.args.named.now.netlist c.args.valid.now.plan c.requires.valid.plan_valid)

pub schedule_written-requires : goal.schedule_written-requires
schedule_written-requires c = subst HasBounds (sym c.plan-plan.ensures) (has_bounds c.args.named.now.netlist c.args.valid.now.plan c.requires.valid.plan_valid)

pub signatures_written-requires-clause-bounds : goal.signatures_written-requires-clause-bounds
signatures_written-requires-clause-bounds c = has_bounds c.args.named.now.netlist c.args.valid.now.plan c.requires.valid.plan_valid

pub certificate_written-requires-clause-bounds : goal.certificate_written-requires-clause-bounds
certificate_written-requires-clause-bounds c = has_bounds c.args.named.now.netlist c.args.valid.now.plan c.requires.valid.plan_valid

pub certificate_written-requires-clause-duals : goal.certificate_written-requires-clause-duals
certificate_written-requires-clause-duals c = duals_long c.args.named.now.netlist c.args.valid.now c.requires.valid

pub returns : goal.returns
returns c = λ settings answer.
    let a = c.args.named.now in
    let p = c.args.valid.now.plan in
    let made = c.in_ok-text.ensures in
    let texts = c.in_ok-signatures.ensures in
    let signed = subst (λ (n : Netlist ℕ). AreSignatures n p texts.0) c.netlist-netlist.ensures.value texts.1 in
    record {
      narrow = answer.narrow;
      plan = p;
      chosen = answer.chosen;
      valid = c.requires.valid.plan_valid;
      within = answer.within;
      written_as = made.0;
      woven = made.1;
      netlist = made.2;
      denotes = made.3;
      signatures = texts.0;
      signed = signed;
      good = c.mirrors_are_self_tests.ensures a made.0 p texts.0 (is_written c.mirrors_itself.ensures a made.0 p c.netlist-netlist.ensures.named c.requires.own c.requires.valid.plan_valid made.1) signed;
      schedule = c.in_ok-schedule.ensures ∙ ap schedule_text c.plan-plan.ensures;
      signature_file = texts.2;
      segments = c.args.valid.now.segments;
      segments_are = c.requires.valid.each;
      certificate = c.in_ok-certificate.ensures;
      summary = subst (λ (q : PlanValue). IsSummary a.netlist q c.summary_of-summary.result) c.plan-plan.ensures (subst (λ (n : Netlist ℕ). IsSummary n c.plan-plan.result.now c.summary_of-summary.result) c.netlist-netlist.ensures.value c.summary_of-summary.ensures);
    }
