use Rattle.std.proofs.Common.{◌≡◌, ◌++◌, drop}
use Rattle.bb_sign.proofs.GateLemmas.{walked}
use Rattle.bb_sign.proofs.evaluation.open_gates_of.Given as goal

abbrev pub invariant-numbers : goal.invariant-numbers
invariant-numbers l = l.open_gates.items ++ walked l.gates l.table (drop l.number-index l.order) ≡ walked l.gates l.table l.order
