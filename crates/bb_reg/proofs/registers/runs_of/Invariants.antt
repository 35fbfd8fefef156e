use Rattle.std.proofs.Common.{◌≡◌, ◌++◌, map, length}
use Rattle.bb_reg.specs.Chosen.{in_runs, register_of}
use Rattle.bb_reg.proofs.registers.runs_of.Given as goal

abbrev pub invariant-runs : goal.invariant-runs
invariant-runs l = l.registers.items ++ map register_of (in_runs l.most l.rest) ≡ map register_of (in_runs l.most l.sources)

abbrev pub decreases-runs : goal.decreases-runs
decreases-runs l = length l.rest
