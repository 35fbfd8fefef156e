use Rattle.std.proofs.Common.{arith, ◌≤◌, ◌<◌, length}
use Rattle.std.proofs.lemmas.Grind.{common_steps}
use Rattle.std.proofs.lemmas.Bool.Decides.{nat_tests}
use Rattle.std.specs.Prelude.{slice_index}
use Rattle.bb_base.specs.Net.{times}
use Rattle.bb_netlist.proofs.LevelLemmas.{times_here, lowered, queued, times_more}
use Rattle.bb_netlist.proofs.levels.release.Goals as goal
use Rattle.bb_netlist.proofs.levels.release.Goals.{then-waits-place-eq0+in_ok-push, else-waits-place-eq0}

pub overflow_sub-waits : goal.overflow_sub-waits
overflow_sub-waits c =
    let r = slice_index c.args.readers.now c.readers.reader-index in
    omega (arith, c.readers.invariant.lower r, c.requires.enough r, times_here c.args.readers.now c.readers.reader-index c.readers-test.true)

pub readers-preserved : goal.readers-preserved
readers-preserved c =
    let i = c.readers.reader-index in
    let r = slice_index c.args.readers.now i in
    let some : 1 ≤ slice_index c.readers.waits r = omega (arith, c.readers.invariant.lower r, c.requires.enough r, times_here c.args.readers.now i c.readers-test.true) in
    let under : slice_index c.readers.waits r ≤ slice_index c.args.waits.now r = omega (arith, c.readers.invariant.lower r) in
    let within : r < length c.readers.waits = omega (arith, c.requires.within i 0 c.readers-test.true, c.readers.invariant.long) in
    record {
      long = grind (arith, common_steps);
      lower = λ h. lowered c.readers.waits c.args.waits.now c.args.readers.now i h c.readers-test.true within some (c.readers.invariant.lower h);
      ready = λ h.
          queued c.readers.waits c.args.waits.now r h (times h c.readers.ready.items) (times h c.args.ready.now.items) (times h c.if-waits-place-eq0.ready.items) within some under
          (c.readers.invariant.ready h)
          (elim c.if-waits-place-eq0.branch [
            | then-waits-place-eq0+in_ok-push w ↦ grind (arith, common_steps, nat_tests, within, w.ready-is, w.in_ok-push.ensures.items, w.if-waits-place-eq0.true, times_more h r c.readers.ready.items)
            | else-waits-place-eq0 w ↦ grind (arith, common_steps, nat_tests, within, w.ready-is, w.if-waits-place-eq0.false)
          ]);
    }
