use Rattle.std.proofs.Common.{◌≡◌, ◌++◌, drop, map}
use Rattle.bb_scope.specs.Making.{all_nets}
use Rattle.bb_gates.proofs.cell_gates.all_nets.Given as goal

abbrev pub invariant-loop-part : goal.invariant-loop-part
invariant-loop-part l = l.nets.items ++ all_nets (map (λ r. r.now) (drop l.part-index l.ins)) ≡ all_nets (map (λ r. r.now) l.ins)
