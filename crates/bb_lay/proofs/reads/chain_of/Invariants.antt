use Rattle.std.proofs.Common.{◌≡◌, ◌++◌, drop}
use Rattle.bb_terms.specs.Plan.{chain}
use Rattle.bb_terms.proofs.ChainLemmas.{cells_of}
use Rattle.bb_lay.proofs.reads.chain_of.Given as goal

abbrev pub invariant-registers : goal.invariant-registers
invariant-registers l = l.cells.items ++ cells_of (drop l.register-index l.plan.registers) ≡ chain l.plan
