use Rattle.std.proofs.Common.{◌++◌, ◌+◌, ◌-◌}
use Rattle.bb_terms.specs.Controller.{ring_rows_from, middle_ring}
use Rattle.bb_ctl.proofs.RowLemmas.{more, rings_next}
use Rattle.bb_ctl.proofs.controller.push_later_rings.Goals as goal

pub rings-preserved : goal.rings-preserved
rings-preserved c =
    let s = c.rings.before in
    let n = c.args.more in
    more c.rings.rows.items c.push_ring.new.rows.items (middle_ring s) (ring_rows_from s (n - s)) (ring_rows_from (s + 1) (n - (s + 1))) (c.args.rows.now.items ++ ring_rows_from 0 n) c.rings.invariant c.in_ok-push_ring.ensures (rings_next s n c.rings-test.true)
