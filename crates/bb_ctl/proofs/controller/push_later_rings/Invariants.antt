use Rattle.std.proofs.Common.{◌≡◌, ◌++◌, ◌-◌}
use Rattle.bb_terms.specs.Controller.{ring_rows_from}
use Rattle.bb_ctl.proofs.controller.push_later_rings.Given as goal

abbrev pub invariant-rings : goal.invariant-rings
invariant-rings l = l.rows.items ++ ring_rows_from l.before (l.more - l.before) ≡ l.fn.rows.items ++ ring_rows_from 0 l.more
