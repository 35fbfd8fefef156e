use Rattle.std.proofs.Common.{arith, ◌≡◌, ◌<◌, ℕ, List, Option, length, sym, ap, subst, ◌∙◌, All}
use Rattle.std.specs.List.{flat_map}
use Rattle.bb_base.proofs.Lists.{whole_written}
use Rattle.bb_base.specs.Net.{driven}
use Rattle.bb_terms.specs.Plan.{RegisterValue, PlanValue}
use Rattle.bb_sign.specs.Bits.{noted_column, last_column, AreReadColumns}
use Rattle.bb_sign.proofs.ColumnLemmas.{registers_within, table_is}
use Rattle.bb_sign.proofs.columns.columns_of.Goals as goal

pub note_registers-requires : goal.note_registers-requires
note_registers-requires c =
    let long : length (driven c.args.netlist.now) ≡ length c.deref_mut.result.now = sym (ap length c.deref_mut.ensures.value ∙ c.in_ok-columns.ensures.long ∙ c.nets.ensures.count) in
    let registers = c.deref.ensures.value ∙ ap (λ (q : PlanValue). q.registers) c.plan.view_is in
    subst (λ n. All (λ (g : RegisterValue). All (λ d. d.net < n) g.cells) c.deref.result.now) long
    (subst (λ (gs : List RegisterValue). All (λ (g : RegisterValue). All (λ d. d.net < length (driven c.args.netlist.now)) g.cells) gs) (sym registers) (registers_within c.args.netlist.now c.args.plan.now c.nets.ensures.netlist c.requires))

pub returns-clause-columns : goal.returns-clause-columns
returns-clause-columns c =
    let whole = whole_written c.in_ok-columns.columns.len c.in_ok-columns.columns.items c.note_registers.new.columns (omega arith) (c.note_registers.auto.columns ∙ ap length c.deref_mut.ensures.value) in
    let registers = c.deref.ensures.value ∙ ap (λ (q : PlanValue). q.registers) c.plan.view_is in
    subst (AreReadColumns c.args.netlist.now c.args.plan.now) (sym whole)
    (table_is c.args.netlist.now c.args.plan.now c.note_registers.new.columns c.nets.ensures.netlist c.requires (c.note_registers.ensures.long ∙ ap length c.deref_mut.ensures.value ∙ c.in_ok-columns.ensures.long ∙ c.nets.ensures.count)
    (λ net. c.note_registers.ensures.noted net
    ∙ (ap (λ (gs : List RegisterValue). last_column (flat_map (λ (g : RegisterValue). g.cells) gs) net (noted_column c.deref_mut.result.now net)) registers
    ∙ ap (last_column (flat_map (λ (g : RegisterValue). g.cells) c.args.plan.now.registers) net) (ap (λ (cs : List (Option ℕ)). noted_column cs net) c.deref_mut.ensures.value ∙ c.in_ok-columns.ensures.none net))))
