use Rattle.std.proofs.Common.{◌≡◌, ◌≤◌, ℕ, ap, sym, subst, nat_eq, Err}
use Rattle.std.specs.List.{AllByRecursion}
use Rattle.std.specs.Set.{distinct_count}
use Rattle.bb_base.specs.Net.{Netlist}
use Rattle.bb_terms.specs.Cuts.{IsFirstWide}
use Rattle.bb_terms.specs.Plan.{PlanValue}
use Rattle.bb_terms.specs.Valid.{IsValidPlan}
use Rattle.bb_choose.specs.declared.fault.ChoiceFault.TheVariants.{GateTooWide, DegreeLimit, CycleLimit, NoFullPeriod}
use Rattle.bb_choose.specs.Choice.{IsChosenPlan, OfArranged, LacksDegree, LacksCycles, LacksMask}
use Rattle.bb_forms.specs.ScheduleText.{test_cycles}
use Rattle.bb_make.proofs.ChosenLemmas.{plan_valid}
use Rattle.bb_make.proofs.job.make.Goals as goal

pub returns-in-Err-clause-gate : goal.returns-in-Err-clause-gate
returns-in-Err-clause-gate c = λ gate inputs width e.
    let same : c.in-Err.fault ≡ GateTooWide gate inputs width = cc e in
    subst (λ (n : Netlist ℕ). (width ≡ c.args.settings.now.width) × IsFirstWide n.gates width gate inputs) c.netlist-netlist.ensures.value (c.in-Err.ensures.gate gate inputs width (ap Err same))

pub returns-in-Err-clause-degree : goal.returns-in-Err-clause-degree
returns-in-Err-clause-degree c = λ max need e.
    let same : c.in-Err.fault ≡ DegreeLimit max need = cc e in
    subst (λ (n : Netlist ℕ). OfArranged n c.args.order.now c.args.settings.now (λ grouped. LacksDegree c.args.settings.now grouped max need)) c.netlist-netlist.ensures.value (c.in-Err.ensures.degree max need (ap Err same))

pub returns-in-Err-clause-limit : goal.returns-in-Err-clause-limit
returns-in-Err-clause-limit c = λ needed limit e.
    let same : c.in-Err.fault ≡ CycleLimit needed limit = cc e in
    subst (λ (n : Netlist ℕ). OfArranged n c.args.order.now c.args.settings.now (λ grouped. LacksCycles c.args.settings.now grouped needed limit)) c.netlist-netlist.ensures.value (c.in-Err.ensures.limit needed limit (ap Err same))

pub returns-in-Err-clause-period : goal.returns-in-Err-clause-period
returns-in-Err-clause-period c = λ cells e.
    let same : c.in-Err.fault ≡ NoFullPeriod cells = cc e in
    subst (λ (n : Netlist ℕ). OfArranged n c.args.order.now c.args.settings.now (λ grouped. LacksMask c.args.settings.now grouped cells)) c.netlist-netlist.ensures.value (c.in-Err.ensures.period cells (ap Err same))

pub checked-requires-clause-valid : goal.checked-requires-clause-valid
checked-requires-clause-valid c =
    let value = c.netlist-netlist.ensures.value in
    let chosen = subst (λ (n : Netlist ℕ). IsChosenPlan n c.args.order.now c.args.settings.now c.in-Ok.chosen.plan) value c.in-Ok.ensures.chosen in
    subst (λ (n : Netlist ℕ). IsValidPlan n c.in-Ok.chosen.plan) (sym value)
    (plan_valid c.chosen_plans_are_valid.ensures c.nets_are_bits.ensures.nets c.args.named.now c.args.order.now c.args.settings.now c.in-Ok.chosen.plan c.netlist-netlist.ensures.named c.requires.few c.requires.order c.requires.settings chosen)

pub returns-clause-made : goal.returns-clause-made
returns-clause-made c =
    let value = c.netlist-netlist.ensures.value in
    let plan = sym c.in_ok-valid.ensures.plan in
    let chosen = subst (λ (n : Netlist ℕ). IsChosenPlan n c.args.order.now c.args.settings.now c.in-Ok.chosen.plan) value c.in-Ok.ensures.chosen in
    let cycles = c.in-Ok.ensures.cycles in
    let within = c.in-Ok.ensures.within in
    c.in_ok-made.ensures c.args.settings.now (record {
      chosen = subst (λ (p : PlanValue). IsChosenPlan c.args.named.now.netlist c.args.order.now c.args.settings.now p) plan chosen;
      within = subst (λ (p : PlanValue). test_cycles p ≤ c.args.settings.now.max_cycles) plan (subst (λ n. n ≤ c.args.settings.now.max_cycles) cycles within);
      narrow = subst (λ (n : Netlist ℕ). AllByRecursion (λ g. distinct_count nat_eq g.ins ≤ c.args.settings.now.width) n.gates) value c.in-Ok.ensures.narrow;
    })
