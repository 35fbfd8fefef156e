use Rattle.std.proofs.Common.{◌≡◌, ◌∙◌, arith, ◌+◌, ◌-◌, ◌^◌, min, drop, slice_get, Some}
use Rattle.bb_base.specs.Variables.{Entry, range_width}
use Rattle.bb_drive.specs.Tallies.{is_role}
use Rattle.bb_drive.proofs.MarkLaws.{role_step, role_past}
use Rattle.bb_drive.proofs.marks.mark_role.Goals as goal

pub returns-then-first-marks : goal.returns-then-first-marks
returns-then-first-marks c = record {
  long = c.vars.invariant.long;
  each = λ b small. role_past (is_role c.args.role) (drop c.vars.index c.args.vars.now.entries) c.vars.first b c.vars.marks _ (omega (arith, c.vars.invariant.long)) (c.vars.invariant.each b small);
}

pub vars-preserved : goal.vars-preserved
vars-preserved c =
    let es = c.args.vars.now.entries in
    let i = c.vars.index in
    let v : Entry = (c.unwrap.result.0.now, c.unwrap.result.1.now) in
    let at : slice_get es i ≡ Some v = grind (arith, c.get_index.ensures.entry, c.unwrap.ensures) in
    let next : c.saturating_add-first.result ≡ min (2 ^ 64 - 1) (c.vars.first + range_width v.1.range) = omega (arith, c.saturating_add-first.ensures, c.range_width.ensures) in
    record {
      long = c.mark_variable.ensures.long ∙ c.vars.invariant.long;
      each = λ b small. role_step (is_role c.args.role) es i c.vars.first c.saturating_add-first.result v c.vars.marks c.mark_variable.new.marks b _ at next (omega (arith, c.requires))
          (c.mark_variable.ensures.each b (omega (arith, c.vars.invariant.long))) (c.vars.invariant.each b small);
    }
