use Rattle.std.proofs.Common.{arith, ◌≡◌, drop, Some, slice_get}
use Rattle.std.proofs.lemmas.Grind.{common_steps}
use Rattle.bb_base.specs.Variables.{Entry, bit_count}
use Rattle.bb_fault.proofs.CountLemmas.{bits_next}
use Rattle.bb_fault.proofs.counts.bit_count.Goals as goal

pub loop-index-preserved : goal.loop-index-preserved
loop-index-preserved c =
    let es = c.args.table.now.entries in
    let i = c.loop-index.index in
    let v : Entry = (c.unwrap.result.0.now, c.unwrap.result.1.now) in
    let at : slice_get es i ≡ Some v = grind (arith, c.get_index.ensures.entry, c.unwrap.ensures) in
    let next = bits_next es i v at in
    record {
      fits = omega (arith, c.saturating_add-count.ensures);
      all = omega (arith, next, c.range_width.ensures, c.saturating_add-count.ensures, c.loop-index.invariant.all);
    }

pub returns : goal.returns
returns c =
    let none : bit_count (drop c.loop-index.index c.args.table.now.entries) ≡ 0 = grind (arith, common_steps, c.loop-index.auto.index-end, c.loop-index-test.false, c.len-index-end.ensures.len) in
    omega (arith, none, c.loop-index.invariant.fits, c.loop-index.invariant.all)
