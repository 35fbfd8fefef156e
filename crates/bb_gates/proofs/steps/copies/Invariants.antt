use Rattle.std.proofs.Common.{◌≡◌, ◌++◌, ◌-◌}
use Rattle.bb_scope.specs.Making.{copies}
use Rattle.bb_gates.proofs.steps.copies.Given as goal

abbrev pub invariant-loop : goal.invariant-loop
invariant-loop l = l.bits.items ++ copies (l.times - l.counter) l.value ≡ copies l.times l.value
