use Rattle.std.proofs.Common.{length}
use Rattle.bb_code.proofs.marks.+mark_coset.Given as goal

abbrev pub decreases-mark_coset : goal.decreases-mark_coset
decreases-mark_coset l = length l.rows.now
