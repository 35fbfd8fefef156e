use Rattle.std.proofs.Common.{◌≡◌, ◌++◌, drop}
use Rattle.bb_scope.specs.Making.{side_by_side}
use Rattle.bb_gates.proofs.steps.joined.Given as goal

abbrev pub invariant-loop-value : goal.invariant-loop-value
invariant-loop-value l = l.bits.items ++ side_by_side (drop l.value-index l.values) ≡ side_by_side l.values
