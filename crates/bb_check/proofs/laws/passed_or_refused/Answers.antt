use Rattle.bb_check.proofs.TextLemmas.{FormLaws, never_both}
use Rattle.bb_check.proofs.laws.passed_or_refused.Goals as goal

pub returns : goal.returns
returns c =
    let laws : FormLaws = record {
      ends = c.one_end_of.ensures.one;
      named = c.read_netlists_are_named.ensures;
      plan = c.one_plan.ensures.one;
      no_schedule = c.one_plan.ensures.all;
      schedule = c.one_plan.ensures.line;
      signed = c.one_list.ensures.one;
      no_signatures = c.one_list.ensures.all;
      signatures = c.one_list.ensures.line;
      certified = c.one_certificate.ensures.one;
      no_certificate = c.one_certificate.ensures.all;
      certificate = c.one_certificate.ensures.line;
      one_fault = c.one_audit.ensures.one;
      no_fault = c.one_audit.ensures.none;
    } in
    never_both laws
