use Rattle.std.proofs.Common.{◌≡◌, ◌++◌, drop, map}
use Rattle.bb_scope.specs.Kinds.{texts}
use Rattle.bb_scope.specs.Making.{nets_of}
use Rattle.bb_gates.proofs.cell_gates.inputs.Given as goal

abbrev pub invariant-loop-name : goal.invariant-loop-name
invariant-loop-name l = map (λ r. r.now) l.ins.items ++ map (nets_of l.read) (texts (drop l.name-index l.names)) ≡ map (nets_of l.read) (texts l.names)
