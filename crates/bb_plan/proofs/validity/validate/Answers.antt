use Rattle.std.proofs.Common.{◌≡◌, List, refl, sym, subst, ◌∙◌}
use Rattle.std.specs.List.{AllZip}
use Rattle.bb_terms.specs.declared.fault.PlanFault.TheVariants.{Rule}
use Rattle.bb_terms.specs.Plan.{PlanValue, observers}
use Rattle.bb_terms.specs.Rules.{Period}
use Rattle.bb_terms.specs.Valid.{SegmentValue, IsRuleFault, IsValidPlan, IsSegmentOf}
use Rattle.bb_plan.proofs.Stages.{meets_more, first_fault}
use Rattle.bb_plan.proofs.FaultLemmas.{valid_plan, same_fault}
use Rattle.bb_plan.proofs.validity.validate.Goals as goal

pub returns-in-Err-clause-rule : goal.returns-in-Err-clause-rule
returns-in-Err-clause-rule c = λ number place e. c.in-Err.ensures.fault number place (same_fault c.in-Err.fault (Rule number place) e)

pub returns-in-Some-period-clause-rule : goal.returns-in-Some-period-clause-rule
returns-in-Some-period-clause-rule c = λ number place e.
    let fault = first_fault c.args.netlist.now c.args.plan 13 14 c.in-Some-period.steps Period refl refl c.in-Ok.ensures.meets (c.in-Some-period.ensures c.args.netlist.now) in
    let fourteen : number ≡ 14 = cc e in
    let there : c.capped-in-Some-period.result ≡ place = cc e in
    record { exact = c.in-Some-period.steps; fault = subst (λ n. IsRuleFault c.args.netlist.now c.args.plan n c.in-Some-period.steps) (sym fourteen) fault; capped = sym there ∙ c.capped-in-Some-period.ensures }

pub returns-clause-valid : goal.returns-clause-valid
returns-clause-valid c =
    let meets = meets_more c.args.netlist.now c.args.plan 13 14 Period refl refl c.in-Ok.ensures.meets (c.in_default-period.ensures c.args.netlist.now) in
    record {
      plan_valid = subst (IsValidPlan c.args.netlist.now) (sym c.new.ensures.plan) (valid_plan c.args.netlist.now c.args.plan c.args.order.now c.requires.order meets);
      each = subst (λ (p : PlanValue). AllZip (IsSegmentOf c.args.netlist.now p) (observers p) c.new.result.segments) (sym c.new.ensures.plan)
          (subst (λ (segments : List SegmentValue). AllZip (IsSegmentOf c.args.netlist.now c.args.plan) (observers c.args.plan) segments) (sym c.new.ensures.segments) c.in-Ok.ensures.segments);
    }
