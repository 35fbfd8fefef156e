use Rattle.std.proofs.Common.{◌≡◌, ◌++◌, drop, filter, map}
use Rattle.bb_written.specs.Written.{is_inner}
use Rattle.bb_lay.proofs.flops.push_outs.Given as goal

abbrev pub invariant-rows : goal.invariant-rows
invariant-rows l = l.wires.items ++ filter is_inner (map (λ k. k.out) (drop l.row-index l.rows)) ≡ l.fn.wires.items ++ filter is_inner (map (λ k. k.out) l.rows)
