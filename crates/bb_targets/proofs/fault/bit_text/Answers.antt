use Rattle.std.proofs.Common.{arith, ◌≡◌}
use Rattle.std.specs.Prelude.{Some, slice_get}
use Rattle.std.proofs.lemmas.Bool.Decides.{nat_tests}
use Rattle.bb_base.specs.Variables.{Entry}
use Rattle.bb_drive.proofs.BitNames.{name_next, bit_found, count_next, count_end}
use Rattle.bb_targets.proofs.fault.bit_text.Goals as goal

pub returns-then-place-width : goal.returns-then-place-width
returns-then-place-width c =
    let es = c.args.table.now.entries in
    let i = c.variables.index in
    let v : Entry = (c.unwrap.result.0.now, c.unwrap.result.1.now) in
    let at : slice_get es i ≡ Some v = grind (arith, c.get_index.ensures.entry, c.unwrap.ensures) in
    bit_found es i c.variables.place c.args.bit v c.in_ok-copy.field-0 c.index_of.result at
    (omega (arith, c.if-place-width.true, c.range_width-width.ensures))
    c.variables.invariant.same
    c.in_ok-copy.ensures
    (grind (arith, c.index_of.ensures, c.if-place-width.true, c.variables.invariant.within, c.ranges.bit.fits))

pub variables-preserved : goal.variables-preserved
variables-preserved c =
    let es = c.args.table.now.entries in
    let i = c.variables.index in
    let v : Entry = (c.unwrap.result.0.now, c.unwrap.result.1.now) in
    let at : slice_get es i ≡ Some v = grind (arith, c.get_index.ensures.entry, c.unwrap.ensures) in
    let next = name_next es i i c.variables.place v at in
    record {
      within = omega arith;
      inside = omega (arith, c.variables.invariant.inside, count_next es i v at, c.range_width-width.ensures, c.if-place-width.false);
      same = grind (arith, nat_tests, next, c.range_width-width.ensures, c.variables.invariant.same, c.if-place-width.false);
    }

pub unreachable-requires : goal.unreachable-requires
unreachable-requires c =
    omega (arith, c.variables.invariant.inside, c.variables-test.false, c.len-index-end.ensures.len, count_end c.args.table.now.entries c.variables.index (omega (arith, c.variables-test.false, c.len-index-end.ensures.len)))
