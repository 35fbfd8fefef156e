use Rattle.std.proofs.Common.{arith, ◌≡◌, Some, subst}
use Rattle.std.proofs.lemmas.Grind.{common_steps}
use Rattle.bb_scope.specs.Names.{pin_names}
use Rattle.bb_scope.specs.Uses.{AreNext}
use Rattle.bb_scope.proofs.UseLaws.{next_item, next_items}
use Rattle.bb_gates.proofs.cell_gates.out_of.Goals.{in-Some+else-eq, in_default}
use Rattle.bb_gates.proofs.cell_gates.out_of.Goals as goal

pub add_driven_bits-requires : goal.add_driven_bits-requires
add_driven_bits-requires c =
    let is : c.pin-item.result.1 ≡ Some c.in-Some.steps.now = grind (arith, common_steps, c.pin.view_is, c.in-Some.is) in
    subst (λ e. AreNext c.args.scope.now (pin_names e) c.loop-pin.rest.now) is
    (next_item (λ p. pin_names p.1) c.args.scope.now c.args.pins.now c.loop-pin.pin-index c.pin-item.result c.loop-pin.rest.now c.loop-pin.invariant.next c.pin-item.is c.loop-pin-test.true)

pub loop-pin-preserved : goal.loop-pin-preserved
loop-pin-preserved c =
    record {
      next =
          next_items (λ p. pin_names p.1) c.args.scope.now c.args.pins.now c.loop-pin.pin-index c.pin-item.result c.loop-pin.rest.now c.behind_pin-rest.result.now c.loop-pin.invariant.next c.pin-item.is
          c.loop-pin-test.true c.behind_pin-rest.ensures;
      made =
          elim c.match-pin.branch [
            | in-Some+else-eq w ↦ grind (arith, common_steps, w.eq.ensures, c.loop-pin.invariant.made, c.pin-item.is)
            | in_default w ↦ grind (arith, common_steps, c.loop-pin.invariant.made, c.pin-item.is)
          ];
    }
