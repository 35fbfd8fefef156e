use Rattle.std.proofs.Common.{ℕ, ◌<◌}
use Rattle.bb_audit.proofs.DualLemmas.{IsDualEnd}
use Rattle.bb_audit.proofs.duals.have_duals.Given as goal

abbrev pub invariant-loop-place : goal.invariant-loop-place
invariant-loop-place l = (k : ℕ) → k < l.place → IsDualEnd l.plan l.pairs k
