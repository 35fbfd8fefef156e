use Rattle.std.proofs.Common.{arith, ◌≡◌, Some, subst}
use Rattle.std.proofs.lemmas.Grind.{common_steps}
use Rattle.bb_scope.specs.Names.{pin_names}
use Rattle.bb_scope.specs.Uses.{AreNext}
use Rattle.bb_scope.proofs.UseLaws.{next_item, next_items}
use Rattle.bb_targets.proofs.items.mark_pins.Goals as goal
use Rattle.bb_targets.proofs.items.mark_pins.Goals.{in-Some+else-eq, in_default}

pub mark_driven-requires : goal.mark_driven-requires
mark_driven-requires c =
    let is : c.pin-item.result.1 ≡ Some c.as_slice.result.now = grind (arith, common_steps, c.in-Some.is, c.as_slice.ensures) in
    subst (λ e. AreNext c.args.scope.now (pin_names e) c.pins.rest.now) is
    (next_item (λ p. pin_names p.1) c.args.scope.now c.args.pins.now c.pins.pin-index c.pin-item.result c.pins.rest.now c.pins.invariant.next c.pin-item.is c.pins-test.true)

pub pins-preserved : goal.pins-preserved
pins-preserved c =
    record {
      next =
          next_items (λ p. pin_names p.1) c.args.scope.now c.args.pins.now c.pins.pin-index c.pin-item.result c.pins.rest.now c.behind_pin-rest.result.now c.pins.invariant.next c.pin-item.is
          c.pins-test.true c.behind_pin-rest.ensures;
      kept = c.pins.invariant.kept;
      same =
          elim c.match-pin.branch [
            | in-Some+else-eq w ↦ grind (arith, common_steps, w.eq.ensures, w.bytes.ensures.value, c.pins.invariant.same, c.pin-item.is)
            | in_default w ↦ grind (arith, common_steps, c.pins.invariant.same, c.pin-item.is)
          ];
    }
