use Rattle.std.proofs.Common.{List, sym, ap, subst, ◌∙◌, All}
use Rattle.std.specs.List.{AllZip}
use Rattle.bb_terms.specs.declared.plan.Cell.{Cell}
use Rattle.bb_terms.specs.Plan.{RegisterValue}
use Rattle.bb_terms.specs.Rules.{Fits}
use Rattle.bb_sign.specs.Compactors.{IsCompactor, IsLineStart}
use Rattle.bb_sign.proofs.CompactorLemmas.{cells_fit, with_lines}
use Rattle.bb_sign.proofs.compactors.compactor_of.Goals as goal

pub starts_of-requires-clause-fits : goal.starts_of-requires-clause-fits
starts_of-requires-clause-fits c =
    let cells = c.deref.ensures.value ∙ ap (λ (g : RegisterValue). g.cells) c.register.view_is in
    subst (All (Fits c.args.netlist.now)) (sym cells) (cells_fit c.args.netlist.now c.args.plan.now c.requires.stands.0 c.args.register.now c.requires.valid c.requires.stands.1)

pub returns : goal.returns
returns c =
    let cells = c.deref.ensures.value ∙ ap (λ (g : RegisterValue). g.cells) c.register.view_is in
    let zip = subst (λ (cs : List Cell). AllZip (IsLineStart c.args.netlist.now) cs c.in_ok-starts.starts.items) cells c.in_ok-starts.ensures in
    let made = with_lines c.args.netlist.now c.args.plan.now c.requires.stands.0 c.args.register.now c.in_ok-starts.starts.items c.requires.valid c.requires.stands.1 zip in
    subst (λ m. IsCompactor c.args.netlist.now c.args.register.now (record { mask = m; starts = c.in_ok-starts.starts.items })) (sym (ap (λ (g : RegisterValue). g.mask) c.register.view_is)) made
