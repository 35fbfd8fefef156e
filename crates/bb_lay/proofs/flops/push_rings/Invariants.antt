use Rattle.std.proofs.Common.{◌≡◌, ◌++◌, ◌-◌}
use Rattle.bb_written.specs.Cells.{ring_flops}
use Rattle.bb_lay.proofs.flops.push_rings.Given as goal

abbrev pub invariant-rings : goal.invariant-rings
invariant-rings l = l.flops.items ++ ring_flops l.s (l.sessions - l.s) ≡ l.fn.flops.items ++ ring_flops 0 l.sessions
