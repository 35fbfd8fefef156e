use Rattle.std.proofs.Common.{◌≡◌, ap, sym, subst, ◌∙◌, Err}
use Rattle.bb_code.specs.declared.fault.Need.TheVariants.{Cells, Source}
use Rattle.bb_choose.specs.declared.fault.ChoiceFault.TheVariants.{DegreeLimit}
use Rattle.bb_read.specs.declared.refusal.PlanRefusal.TheVariants.{GateTooWide, TooFewStates, NoColumn, TooManyCycles, NoFullPeriod}
use Rattle.bb_read.specs.declared.refusal.Refusal.TheVariants.{Plan}
use Rattle.bb_compile.specs.Causes.{IsNetlistRefused}
use Rattle.bb_compile.proofs.PlanLemmas.{source_within}
use Rattle.bb_compile.proofs.plan.made_of.Goals as goal

pub stuck_source-requires : goal.stuck_source-requires
stuck_source-requires c =
    let arm = c.in-Err-DegreeLimit-default-Source in
    let lacks = arm.ensures.degree arm.max (Source arm.source) (ap Err (arm.field-0-is ∙ ap (DegreeLimit arm.max) arm.field-0-1-is)) in
    source_within c.args.named.now c.args.order.now c.args.settings.now arm.max arm.source c.requires.ready.named c.requires.order lacks

pub returns-in_ok-wide_gate-in-Err-GateTooWide-clause-refused : goal.returns-in_ok-wide_gate-in-Err-GateTooWide-clause-refused
returns-in_ok-wide_gate-in-Err-GateTooWide-clause-refused c = λ refusal e.
    let arm = c.in-Err-GateTooWide in
    let found = c.in_ok-wide_gate-in-Err-GateTooWide.ensures in
    let cause = arm.ensures.gate arm.gate arm.inputs arm.width (ap Err arm.field-0-is) in
    let same : Plan (GateTooWide found.0 found.1 arm.inputs arm.width) ≡ refusal = ap Plan (sym found.2) ∙ cc e in
    subst (IsNetlistRefused c.args.named.now c.args.order.now c.args.settings.now) same (cause.0, found.3)

pub returns-in-Err-DegreeLimit-default-Cells-clause-refused : goal.returns-in-Err-DegreeLimit-default-Cells-clause-refused
returns-in-Err-DegreeLimit-default-Cells-clause-refused c = λ refusal e.
    let arm = c.in-Err-DegreeLimit-default-Cells in
    let lacks = arm.ensures.degree arm.max (Cells arm.cells) (ap Err (arm.field-0-is ∙ ap (DegreeLimit arm.max) arm.field-0-1-is)) in
    let same : Plan (TooFewStates arm.max arm.cells) ≡ refusal = cc e in
    subst (IsNetlistRefused c.args.named.now c.args.order.now c.args.settings.now) same lacks

pub returns-in_ok-stuck_source-in-Err-DegreeLimit-default-Source-clause-refused : goal.returns-in_ok-stuck_source-in-Err-DegreeLimit-default-Source-clause-refused
returns-in_ok-stuck_source-in-Err-DegreeLimit-default-Source-clause-refused c = λ refusal e.
    let arm = c.in-Err-DegreeLimit-default-Source in
    let lacks = arm.ensures.degree arm.max (Source arm.source) (ap Err (arm.field-0-is ∙ ap (DegreeLimit arm.max) arm.field-0-1-is)) in
    let found = c.in_ok-stuck_source-in-Err-DegreeLimit-default-Source.ensures in
    let same : Plan (NoColumn arm.max found.0 found.1) ≡ refusal = ap Plan (sym found.2) ∙ cc e in
    subst (IsNetlistRefused c.args.named.now c.args.order.now c.args.settings.now) same (arm.source, found.3, lacks)

pub returns-in-Err-CycleLimit-clause-refused : goal.returns-in-Err-CycleLimit-clause-refused
returns-in-Err-CycleLimit-clause-refused c = λ refusal e.
    let arm = c.in-Err-CycleLimit in
    let lacks = arm.ensures.limit arm.needed arm.limit (ap Err arm.field-0-is) in
    let same : Plan (TooManyCycles arm.limit arm.needed) ≡ refusal = cc e in
    subst (IsNetlistRefused c.args.named.now c.args.order.now c.args.settings.now) same lacks

pub returns-in-Err-NoFullPeriod-clause-refused : goal.returns-in-Err-NoFullPeriod-clause-refused
returns-in-Err-NoFullPeriod-clause-refused c = λ refusal e.
    let arm = c.in-Err-NoFullPeriod in
    let lacks = arm.ensures.period arm.degree (ap Err arm.field-0-is) in
    let same : Plan (NoFullPeriod arm.degree) ≡ refusal = cc e in
    subst (IsNetlistRefused c.args.named.now c.args.order.now c.args.settings.now) same lacks
