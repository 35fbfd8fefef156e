use Rattle.std.proofs.Common.{arith, ◌≡◌, ◌+◌, ◌*◌, ◌^◌, ◌≤◌, ◌<◌, Err, length, map, slice_index, sym, ap, subst, ◌∙◌}
use Rattle.std.specs.List.{AllByRecursion}
use Rattle.bb_base.specs.Firsts.{IsLeast}
use Rattle.bb_terms.specs.Register.{IsFullMask}
use Rattle.bb_code.specs.Segments.{sources_of}
use Rattle.bb_terms.specs.Plan.{RegisterValue}
use Rattle.bb_reg.specs.Chosen.{GroupedValue, scheduled_of}
use Rattle.bb_choose.specs.Choice.{LacksDegree, LacksMask, IsFirstUnmasked, cycle_count}
use Rattle.bb_choose.specs.Coding.{HasColumn, coded_register}
use Rattle.bb_choose.proofs.PlanLemmas.{columns_all, short_enough, plan_is}
use Rattle.bb_choose.proofs.SessionCounts.{sessions_few}
use Rattle.bb_choose.proofs.choice.plan_of.Goals as goal

pub returns-in-Err-DegreeLimit-clause-degree : goal.returns-in-Err-DegreeLimit-clause-degree
returns-in-Err-DegreeLimit-clause-degree c = λ max need e.
    let arm = c.in-Err-DegreeLimit in
    let top : arm.max ≡ max = cc (e, arm.max-is) in
    let same : arm.need ≡ need = cc (e, arm.need-is) in
    subst (LacksDegree c.args.settings.now c.args.grouped.now max) same (subst (λ k. LacksDegree c.args.settings.now c.args.grouped.now k arm.need) top (arm.ensures.limit arm.max arm.need (ap Err arm.field-0-is)))

pub cycles_of-cycles-requires-clause-sessions : goal.cycles_of-cycles-requires-clause-sessions
cycles_of-cycles-requires-clause-sessions c =
    let is = c.len.ensures in
    let sessions = ap length c.in_ok-sessions.ensures.sessions in
    let few = sessions_few c.args.grouped.now in
    let registers = c.requires.ready.registers_few in
    omega (arith, is, sessions, few, registers)

pub returns-in-Err-clause-period : goal.returns-in-Err-clause-period
returns-in-Err-clause-period c = λ cells e.
    let grouped = c.args.grouped.now in
    let degree = c.in-Ok.coded.degree in
    let same : c.in-Err.fault.degree ≡ cells = cc e in
    let registers : c.deref.result.now ≡ grouped.registers = c.deref.ensures.value ∙ ap (λ (g : GroupedValue). g.registers) c.grouped.view_is in
    let number = c.len.ensures in
    let scheduled = ap length c.in_ok-sessions.ensures.sessions in
    let sessions : c.len.result ≡ length (scheduled_of grouped) = omega (arith, number, scheduled) in
    let count : c.cycles_of-cycles.result ≡ cycle_count grouped degree = c.cycles_of-cycles.ensures ∙ ap (λ n. 1 + 2 * n * 2 ^ degree) sessions in
    let few = c.if-cycles-settings.false in
    subst (LacksMask c.args.settings.now grouped) same (record {
      degree = degree;
      least = c.in-Ok.ensures.degree;
      within = subst (λ n. n ≤ c.args.settings.now.max_cycles) count (omega (arith, few));
      first = subst (λ gs. IsFirstUnmasked degree gs c.in-Err.fault.degree) registers c.in-Err.ensures.fault;
    })

pub coded_registers-requires-clause-columns : goal.coded_registers-requires-clause-columns
coded_registers-requires-clause-columns c =
    let grouped = c.args.grouped.now in
    let registers : c.deref-5.result.now ≡ grouped.registers = c.deref-5.ensures.value ∙ ap (λ (g : GroupedValue). g.registers) c.grouped.view_is in
    let sources = c.in_ok-sources.sources in
    let there = columns_all grouped sources.nets.items sources.numbers.items c.in-Ok.coded.columns.items (sources_of sources.segments.items) c.in-Ok.coded.degree c.in_ok-sources.ensures c.in-Ok.ensures.columns in
    let columns = subst (λ cs. AllByRecursion (λ (g : RegisterValue). AllByRecursion (HasColumn sources.numbers.items cs) g.cells) grouped.registers) (sym c.deref-3.ensures.value) there in
    let numbers = subst (λ ns. AllByRecursion (λ (g : RegisterValue). AllByRecursion (HasColumn ns c.deref-3.result.now) g.cells) grouped.registers) (sym c.deref-2.ensures.value) columns in
    subst (AllByRecursion (λ (g : RegisterValue). AllByRecursion (HasColumn c.deref-2.result.now c.deref-3.result.now) g.cells)) (sym registers) numbers

pub coded_registers-requires-clause-masks : goal.coded_registers-requires-clause-masks
coded_registers-requires-clause-masks c =
    let grouped = c.args.grouped.now in
    let registers : c.deref-5.result.now ≡ grouped.registers = c.deref-5.ensures.value ∙ ap (λ (g : GroupedValue). g.registers) c.grouped.view_is in
    subst (AllByRecursion (λ (g : RegisterValue). length g.cells < length c.deref-4.result.now)) (sym registers) (short_enough grouped.registers (length c.deref-4.result.now) c.requires.ready.few (ap length c.deref-4.ensures.0 ∙ c.in-Ok-all_masks.ensures.long))

pub returns-clause-plan : goal.returns-clause-plan
returns-clause-plan c =
    let grouped = c.args.grouped.now in
    let sources = c.in_ok-sources.sources in
    let registers : c.deref-5.result.now ≡ grouped.registers = c.deref-5.ensures.value ∙ ap (λ (g : GroupedValue). g.registers) c.grouped.view_is in
    let first : c.deref.result.now ≡ grouped.registers = c.deref.ensures.value ∙ ap (λ (g : GroupedValue). g.registers) c.grouped.view_is in
    let masks = c.in-Ok-all_masks.masks.registers.items in
    let is = c.in_ok-registers.ensures ∙ (λ i. map (coded_register (c.deref-2.ensures.value i) (c.deref-3.ensures.value i) (c.deref-4.ensures.0 i)) (registers i)) in
    plan_is c.args.settings.now grouped sources.nets.items sources.numbers.items c.in-Ok.coded.columns.items masks (sources_of sources.segments.items) c.in-Ok.coded.degree c.in-Ok-all_masks.masks.degree c.in_ok-registers.registers.items
    c.in_ok-sessions.sessions.items c.in_ok-sources.ensures is c.in_ok-sessions.ensures.sessions c.in-Ok.ensures.degree c.in-Ok.ensures.columns c.in-Ok-all_masks.ensures.degree
    (subst (AllByRecursion (λ (g : RegisterValue). IsLeast (IsFullMask (length g.cells)) (slice_index masks (length g.cells)))) first c.in-Ok-all_masks.ensures.masks)
