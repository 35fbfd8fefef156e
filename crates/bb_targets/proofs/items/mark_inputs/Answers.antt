use Rattle.std.proofs.Common.{arith, ◌≡◌, ◌∙◌, sym, Some, slice_get, true, false}
use Rattle.bb_base.specs.Variables.{Entry, is_input}
use Rattle.bb_drive.proofs.BitNames.{count_next}
use Rattle.bb_targets.proofs.MarkLaws.{inputs_next}
use Rattle.bb_targets.proofs.items.mark_inputs.Goals as goal
use Rattle.bb_targets.proofs.items.mark_inputs.Goals.{then-is_input, else-is_input}

pub overflow_cast-end : goal.overflow_cast-end
overflow_cast-end c =
    let es = c.args.table.now.entries in
    let v : Entry = (c.unwrap.result.0.now, c.unwrap.result.1.now) in
    let at : slice_get es c.variables.index ≡ Some v = grind (arith, c.get_index.ensures.entry, c.unwrap.ensures) in
    omega (arith, c.requires, c.variables.invariant.left, count_next es c.variables.index v at, c.range_width.ensures)

pub overflow_add-end : goal.overflow_add-end
overflow_add-end c =
    let es = c.args.table.now.entries in
    let v : Entry = (c.unwrap.result.0.now, c.unwrap.result.1.now) in
    let at : slice_get es c.variables.index ≡ Some v = grind (arith, c.get_index.ensures.entry, c.unwrap.ensures) in
    omega (arith, c.requires, c.variables.invariant.left, count_next es c.variables.index v at, c.range_width.ensures)

pub variables-preserved : goal.variables-preserved
variables-preserved c =
    let es = c.args.table.now.entries in
    let i = c.variables.index in
    let v : Entry = (c.unwrap.result.0.now, c.unwrap.result.1.now) in
    let at : slice_get es i ≡ Some v = grind (arith, c.get_index.ensures.entry, c.unwrap.ensures) in
    record {
      left = omega (arith, c.variables.invariant.left, count_next es i v at, c.range_width.ensures);
      same =
          elim c.if-is_input.branch [
            | then-is_input w ↦
                let is : is_input v.1.role ≡ true = sym c.is_input.ensures ∙ w.if-is_input.true in
                inputs_next c.variables.marks c.if-is_input.marks es i c.variables.first c.range_width.result v true at c.range_width.ensures is (w.marks-is ∙ w.mark.ensures) ∙ c.variables.invariant.same
            | else-is_input w ↦
                let is : is_input v.1.role ≡ false = sym c.is_input.ensures ∙ w.if-is_input.false in
                inputs_next c.variables.marks c.if-is_input.marks es i c.variables.first c.range_width.result v false at c.range_width.ensures is w.marks-is ∙ c.variables.invariant.same
          ];
    }
