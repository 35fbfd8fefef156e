use Rattle.bb_reg.specs.Fitting.{AreNoted, ends_at}
use Rattle.bb_reg.proofs.index.readers_of.Given as goal

abbrev pub invariant-items : goal.invariant-items
invariant-items l = AreNoted (λ j. (ends_at l.items j).reads) l.number l.index
