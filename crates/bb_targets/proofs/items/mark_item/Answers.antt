use Rattle.std.proofs.Common.{◌∙◌, ap, subst}
use Rattle.std.specs.Prelude.{flat_map}
use Rattle.bb_scope.specs.Names.{steps_names, item_names}
use Rattle.bb_scope.specs.Terminals.{outs_of}
use Rattle.bb_scope.specs.Uses.{AreNext}
use Rattle.bb_scope.proofs.UseLaws.{next_outs}
use Rattle.bb_targets.proofs.items.mark_item.Goals as goal

pub mark_outs-requires : goal.mark_outs-requires
mark_outs-requires c =
    let names : AreNext c.args.scope.now (flat_map steps_names c.in-Prim.terms) c.args.uses.now = subst (λ i. AreNext c.args.scope.now (item_names i) c.args.uses.now) c.in-Prim.is c.requires in
    next_outs c.args.scope.now c.in-Prim.op c.in-Prim.terms c.outs_of.result.now c.args.uses.now names (c.outs_of.ensures ∙ ap (outs_of c.in-Prim.op) c.as_slice-in-Prim.ensures)
