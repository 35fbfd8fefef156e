use Rattle.std.proofs.Common.{◌≡◌, drop, bit_xor}
use Rattle.bb_base.specs.Span.{combined}
use Rattle.bb_gf2.proofs.parities.combined.Given as goal

abbrev pub invariant-loop-row : goal.invariant-loop-row
invariant-loop-row l = bit_xor l.sum (combined l.left (drop l.row-index l.rows)) ≡ combined l.mask l.rows
