use Rattle.plans_bench.proofs.Variables.{AreFree}
use Rattle.plans_bench.proofs.has_own_names.Given as goal

abbrev pub invariant-variables : goal.invariant-variables
invariant-variables l = AreFree l.named.variables l.number
