use Rattle.std.proofs.Common.{arith, ◌≡◌, ◌+◌, Some, drop, slice_get, ap}
use Rattle.std.proofs.lemmas.Grind.{common_steps}
use Rattle.bb_base.specs.Variables.{Entry, range_width}
use Rattle.bb_scope.specs.Numbers.{places_from}
use Rattle.bb_fault.proofs.CountLemmas.{bits_next}
use Rattle.bb_scope.proofs.ScopeLaws.{places_next}
use Rattle.bb_scope.proofs.scope.places_of.Goals as goal

pub overflow_cast-first : goal.overflow_cast-first
overflow_cast-first c =
    let es = c.args.table.now.entries in
    let v : Entry = (c.unwrap.result.0.now, c.unwrap.result.1.now) in
    let at : slice_get es c.loop-index.index ≡ Some v = grind (arith, c.get_index.ensures.entry, c.unwrap.ensures) in
    let count = bits_next es c.loop-index.index v at in
    omega (arith, count, c.range_width.ensures, c.loop-index.invariant.count, c.requires)

pub overflow_add-first : goal.overflow_add-first
overflow_add-first c =
    let es = c.args.table.now.entries in
    let v : Entry = (c.unwrap.result.0.now, c.unwrap.result.1.now) in
    let at : slice_get es c.loop-index.index ≡ Some v = grind (arith, c.get_index.ensures.entry, c.unwrap.ensures) in
    let count = bits_next es c.loop-index.index v at in
    omega (arith, count, c.range_width.ensures, c.loop-index.invariant.count, c.requires)

pub loop-index-preserved : goal.loop-index-preserved
loop-index-preserved c =
    let es = c.args.table.now.entries in
    let i = c.loop-index.index in
    let first = c.loop-index.first in
    let v : Entry = (c.unwrap.result.0.now, c.unwrap.result.1.now) in
    let at : slice_get es i ≡ Some v = grind (arith, c.get_index.ensures.entry, c.unwrap.ensures) in
    let next = places_next first es i v at in
    let count = bits_next es i v at in
    let width : c.range_width.result ≡ range_width v.1.range = c.range_width.ensures in
    let more : places_from (first + c.range_width.result) (drop (i + 1) es) ≡ places_from (first + range_width v.1.range) (drop (i + 1) es) = ap (λ w. places_from (first + w) (drop (i + 1) es)) width in
    record {
      places = grind (arith, common_steps, next, more, c.loop-index.invariant.places, c.in_ok-push.ensures.items);
      count = omega (arith, width, count, c.loop-index.invariant.count);
    }
