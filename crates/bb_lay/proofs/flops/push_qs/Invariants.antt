use Rattle.std.proofs.Common.{◌≡◌, ◌++◌, drop, filter, map}
use Rattle.bb_written.specs.Written.{is_inner}
use Rattle.bb_lay.proofs.flops.push_qs.Given as goal

abbrev pub invariant-flops : goal.invariant-flops
invariant-flops l = l.wires.items ++ filter is_inner (map (λ k. k.q) (drop l.flop-index l.flops)) ≡ l.fn.wires.items ++ filter is_inner (map (λ k. k.q) l.flops)
