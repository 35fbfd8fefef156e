use Rattle.std.proofs.Common.{◌++◌, None}
use Rattle.bb_terms.specs.Registers.{registers_from}
use Rattle.bb_ctl.proofs.ChainLemmas.{AreBuilt}
use Rattle.bb_ctl.proofs.registers.push_registers.Given as goal

abbrev pub invariant-registers : goal.invariant-registers
invariant-registers l = AreBuilt l.plan l.r l.before l.rest l.rows.items (l.fn.rows.items ++ registers_from l.plan 0 0 None l.plan.registers)
