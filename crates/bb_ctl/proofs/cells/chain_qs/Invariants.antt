use Rattle.bb_terms.specs.Plan.{chain}
use Rattle.bb_ctl.proofs.ChainLemmas.{AreQs}
use Rattle.bb_ctl.proofs.cells.chain_qs.Given as goal

abbrev pub invariant-registers : goal.invariant-registers
invariant-registers l = AreQs l.plan.registers (chain l.plan) l.register-index l.qs.items
