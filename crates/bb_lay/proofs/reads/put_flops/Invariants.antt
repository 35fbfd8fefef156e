use Rattle.std.proofs.Common.{◌≡◌, ℕ, ◌≤◌, length, drop, slice_get, Some}
use Rattle.bb_lay.specs.Tables.{d_over}
use Rattle.bb_lay.proofs.reads.put_flops.Given as goal

abbrev pub invariant-flops : goal.invariant-flops
invariant-flops l = record {
  within : l.i ≤ length l.flops;
  long : length l.ds ≡ length l.fn.ds;
  ds : (net old : ℕ) → slice_get l.fn.ds net ≡ Some old → slice_get l.ds net ≡ Some (d_over (drop l.i l.flops) net old);
}

abbrev pub decreases-flops : goal.decreases-flops
decreases-flops l = l.i
