use Rattle.std.proofs.Common.{◌≡◌, ◌<◌, ◌++◌, ◌∙◌, ap, sym, subst, length, All}
use Rattle.std.proofs.lemmas.List.Elements.{recursion_from_All}
use Rattle.bb_base.specs.Net.{driven}
use Rattle.bb_terms.specs.OnBits.{shifted}
use Rattle.bb_terms.specs.Plan.{chain}
use Rattle.bb_terms.specs.declared.wire.Wire.TheVariants.{Feed}
use Rattle.bb_terms.specs.Controller.{word_from, word_ahead}
use Rattle.bb_lay.specs.Tables.{IsOn, all_rows_in}
use Rattle.bb_lay.proofs.TableLemmas.{ds_below, all_are}
use Rattle.bb_lay.proofs.cells.cell_rows.Goals as goal

pub push_registers-requires-clause-nets : goal.push_registers-requires-clause-nets
push_registers-requires-clause-nets c =
    let t = c.args.tables.now in
    subst (λ rs. All (λ d. d < length rs) c.deref-2.result.now) (sym c.deref.ensures.value) (subst (All (λ d. d < length t.reads.items)) (sym c.deref-2.ensures.value) (ds_below c.args.netlist.now c.args.plan.now t.reads.items t.ds.items c.requires.tables))

pub returns : goal.returns
returns c =
    let a = c.args.netlist.now in
    let p = c.args.plan.now in
    let t = c.args.tables.now in
    let ahead : c.deref-3.result.now ≡ word_ahead p = c.deref-3.ensures.value ∙ c.in_ok-ahead.ensures ∙ ap (λ n. shifted Feed (word_from 0 n)) (ap (λ v. v.degree) c.plan.view_is) in
    c.in_ok-push_registers.ensures ∙ (λ i. c.new-rows.ensures.items i ++ all_rows_in (c.deref.ensures.value i) (c.deref-2.ensures.value i) (ahead i) 0 0 p.registers)
    ∙ all_are a p t.reads.items t.ds.items c.requires.tables 0 0 p.registers (recursion_from_All (IsOn (length (driven a))) (chain p) c.requires.within)
