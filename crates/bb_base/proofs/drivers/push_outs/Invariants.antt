use Rattle.std.proofs.Common.{◌≡◌, ◌++◌, map, take}
use Rattle.bb_base.proofs.drivers.push_outs.Given as goal

abbrev pub invariant-loop-gate : goal.invariant-loop-gate
invariant-loop-gate l = l.nets.items ≡ l.fn.nets.items ++ map (λ x. x.out) (take l.gate-index l.gates)
