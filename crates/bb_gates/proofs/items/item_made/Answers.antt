use Rattle.std.proofs.Common.{◌≡◌, ◌++◌, map, drop, length, refl, sym, ap, subst, ◌∙◌}
use Rattle.bb_scope.specs.Names.{steps_names, item_names}
use Rattle.bb_scope.specs.Uses.{AreNext}
use Rattle.bb_scope.proofs.UseLaws.{next_right}
use Rattle.bb_gates.proofs.items.item_made.Goals as goal

pub assigned-requires-clause-next : goal.assigned-requires-clause-next
assigned-requires-clause-next c =
    let names : AreNext c.args.scope.now (map (λ r. r.name) c.in-Assign.left ++ steps_names c.in-Assign.right) c.args.uses.now =
    subst (λ i. AreNext c.args.scope.now (item_names i) c.args.uses.now) c.in-Assign.is c.requires.next in
    let rest : c.behind-rest.result.now ≡ drop (length c.in-Assign.left) c.args.uses.now = c.behind-rest.ensures ∙ ap (λ l. drop (length l) c.args.uses.now) c.as_slice-in-Assign.ensures in
    subst (λ s. AreNext c.args.scope.now (steps_names s) c.behind-rest.result.now) (sym c.as_slice-in-Assign-2.ensures)
    (next_right c.args.scope.now c.in-Assign.left (steps_names c.in-Assign.right) (length c.in-Assign.left) c.args.uses.now c.behind-rest.result.now names refl rest)
