use Rattle.bb_reg.specs.Fitting.{IsFitted}
use Rattle.bb_reg.proofs.fit.fit.Given as goal

abbrev pub invariant-items : goal.invariant-items
invariant-items l = IsFitted l.items l.most l.number l.fitting.groups.items l.fitting.homes.items l.fitting.open_groups.keys
