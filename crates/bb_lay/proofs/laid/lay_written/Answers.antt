use Rattle.std.proofs.Common.{arith, ℕ, ◌≡◌, ◌∙◌, ap, sym, subst, length, All}
use Rattle.std.proofs.lemmas.List.Elements.{All-from_recursion}
use Rattle.bb_base.specs.Variables.{bit_count}
use Rattle.bb_base.specs.Net.{Netlist, driven}
use Rattle.bb_base.specs.Building.{started}
use Rattle.bb_terms.specs.Plan.{PlanValue, chain}
use Rattle.bb_ctl.specs.Numbers.{HasNumbers}
use Rattle.bb_terms.specs.Wires.{IsAdded}
use Rattle.bb_written.specs.Written.{inner_wires}
use Rattle.bb_lay.specs.Tables.{IsOn}
use Rattle.bb_lay.specs.RowsOf.{AreRows}
use Rattle.bb_written.proofs.Few.{are_few}
use Rattle.bb_written.proofs.Driven.{cells_within}
use Rattle.bb_written.proofs.Inner.{inner_added}
use Rattle.bb_lay.proofs.LaidLemmas.{laid_names}
use Rattle.bb_lay.proofs.Stand.{variables_stand, laid_stand, laid_are, all_added}
use Rattle.bb_lay.proofs.laid.lay_written.Goals as goal

pub rows_of-requires-clause-numbers : goal.rows_of-requires-clause-numbers
rows_of-requires-clause-numbers c =
    let few = are_few c.args.named.now.netlist c.args.valid.now.plan c.requires.valid.plan_valid in
    subst HasNumbers (sym c.plan.ensures) (record { cells = omega (arith, few.cells); registers = omega (arith, few.registers, few.cells); sessions = omega (arith, few.sessions) })

pub rows_of-requires-clause-within : goal.rows_of-requires-clause-within
rows_of-requires-clause-within c =
    let a = c.args.named.now.netlist in
    let p = c.args.valid.now.plan in
    let P = IsOn (length (driven a)) in
    subst (λ (n : Netlist ℕ). All (IsOn (length (driven n))) (chain c.plan.result.now)) (sym c.netlist.ensures.value)
    (subst (λ (q : PlanValue). All P (chain q)) (sym c.plan.ensures) (All-from_recursion P (chain p) (cells_within a c.netlist.ensures.named.netlist p c.requires.valid.plan_valid)))

pub lay-requires-clause-added : goal.lay-requires-clause-added
lay-requires-clause-added c =
    let a = c.args.named.now in
    let p = c.args.valid.now.plan in
    let rows : AreRows a.netlist p c.in_ok-rows.rows = subst (λ (q : PlanValue). AreRows a.netlist q c.in_ok-rows.rows) c.plan.ensures (subst (λ (n : Netlist ℕ). AreRows n c.plan.result.now c.in_ok-rows.rows) c.netlist.ensures.value c.in_ok-rows.ensures) in
    let wires : c.deref.result.now ≡ inner_wires a.netlist p = c.deref.ensures.value ∙ c.in_ok-wires.ensures a.netlist p rows in
    subst (All IsAdded) (sym wires) (All-from_recursion IsAdded (inner_wires a.netlist p) (inner_added a.netlist p c.requires.valid.plan_valid))

pub lay-requires-clause-stand : goal.lay-requires-clause-stand
lay-requires-clause-stand c =
    let a = c.args.named.now in
    let p = c.args.valid.now.plan in
    let rows : AreRows a.netlist p c.in_ok-rows.rows = subst (λ (q : PlanValue). AreRows a.netlist q c.in_ok-rows.rows) c.plan.ensures (subst (λ (n : Netlist ℕ). AreRows n c.plan.result.now c.in_ok-rows.rows) c.netlist.ensures.value c.in_ok-rows.ensures) in
    let wires : c.deref.result.now ≡ inner_wires a.netlist p = c.deref.ensures.value ∙ c.in_ok-wires.ensures a.netlist p rows in
    laid_stand a p c.deref.result.now c.netlist.ensures.named c.requires.own c.requires.valid.plan_valid c.requires.few wires

pub returns-clause-adds : goal.returns-clause-adds
returns-clause-adds c =
    let a = c.args.named.now in
    let p = c.args.valid.now.plan in
    let rows : AreRows a.netlist p c.in_ok-rows.rows = subst (λ (q : PlanValue). AreRows a.netlist q c.in_ok-rows.rows) c.plan.ensures (subst (λ (n : Netlist ℕ). AreRows n c.plan.result.now c.in_ok-rows.rows) c.netlist.ensures.value c.in_ok-rows.ensures) in
    let wires : c.deref.result.now ≡ inner_wires a.netlist p = c.deref.ensures.value ∙ c.in_ok-wires.ensures a.netlist p rows in
    let begin : c.in_ok-builder.builder ≡ started a.module_name = c.in_ok-builder.ensures ∙ ap started (c.in_ok-copy.ensures ∙ c.module.ensures.value) in
    all_added a p c.in_ok-builder.builder c.lay.new.builder c.deref.result.now begin wires c.in_ok-kept.ensures.adds

pub returns-clause-variables : goal.returns-clause-variables
returns-clause-variables c =
    let a = c.args.named.now in
    let p = c.args.valid.now.plan in
    let rows : AreRows a.netlist p c.in_ok-rows.rows = subst (λ (q : PlanValue). AreRows a.netlist q c.in_ok-rows.rows) c.plan.ensures (subst (λ (n : Netlist ℕ). AreRows n c.plan.result.now c.in_ok-rows.rows) c.netlist.ensures.value c.in_ok-rows.ensures) in
    let wires : c.deref.result.now ≡ inner_wires a.netlist p = c.deref.ensures.value ∙ c.in_ok-wires.ensures a.netlist p rows in
    let begin : c.in_ok-builder.builder ≡ started a.module_name = c.in_ok-builder.ensures ∙ ap started (c.in_ok-copy.ensures ∙ c.module.ensures.value) in
    let variables = (laid_names a c.lay.new.builder c.in_ok-builder.builder c.deref.result.now begin c.in_ok-kept.ensures.adds).0 ∙ laid_are a p c.deref.result.now wires in
    variables

pub returns-clause-bits : goal.returns-clause-bits
returns-clause-bits c =
    let a = c.args.named.now in
    let p = c.args.valid.now.plan in
    let rows : AreRows a.netlist p c.in_ok-rows.rows = subst (λ (q : PlanValue). AreRows a.netlist q c.in_ok-rows.rows) c.plan.ensures (subst (λ (n : Netlist ℕ). AreRows n c.plan.result.now c.in_ok-rows.rows) c.netlist.ensures.value c.in_ok-rows.ensures) in
    let wires : c.deref.result.now ≡ inner_wires a.netlist p = c.deref.ensures.value ∙ c.in_ok-wires.ensures a.netlist p rows in
    let begin : c.in_ok-builder.builder ≡ started a.module_name = c.in_ok-builder.ensures ∙ ap started (c.in_ok-copy.ensures ∙ c.module.ensures.value) in
    let variables = (laid_names a c.lay.new.builder c.in_ok-builder.builder c.deref.result.now begin c.in_ok-kept.ensures.adds).0 ∙ laid_are a p c.deref.result.now wires in
    omega (arith, ap bit_count variables, (variables_stand a p c.netlist.ensures.named c.requires.own c.requires.valid.plan_valid c.requires.few).few)

pub returns-clause-rows : goal.returns-clause-rows
returns-clause-rows c =
    let a = c.args.named.now in
    let p = c.args.valid.now.plan in
    let rows : AreRows a.netlist p c.in_ok-rows.rows = subst (λ (q : PlanValue). AreRows a.netlist q c.in_ok-rows.rows) c.plan.ensures (subst (λ (n : Netlist ℕ). AreRows n c.plan.result.now c.in_ok-rows.rows) c.netlist.ensures.value c.in_ok-rows.ensures) in
    rows
