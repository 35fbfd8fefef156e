use Rattle.std.proofs.Common.{◌≡◌, ◌++◌, map, take}
use Rattle.bb_base.proofs.drivers.push_states.Given as goal

abbrev pub invariant-loop-flop : goal.invariant-loop-flop
invariant-loop-flop l = l.nets.items ≡ l.fn.nets.items ++ map (λ x. x.q) (take l.flop-index l.flops)
