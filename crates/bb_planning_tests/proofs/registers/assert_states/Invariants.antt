use Rattle.std.proofs.Common.{◌<◌, ◌^◌}
use Rattle.bb_planning_tests.proofs.registers.assert_states.Given as goal

abbrev pub invariant-loop-state : goal.invariant-loop-state
invariant-loop-state g l = l.x < 2 ^ l.degree
