use Rattle.std.proofs.Common.{take}
use Rattle.bb_base.specs.Dual.{AreLeastDuals}
use Rattle.bb_gf2.proofs.vectors.duals.Given as goal

abbrev pub invariant-loop-place : goal.invariant-loop-place
invariant-loop-place l = AreLeastDuals (take l.place l.rows) l.duals.items
