use Rattle.std.proofs.Common.{◌≡◌, ◌<◌, ℕ, length, slice_get, Some}
use Rattle.bb_lay.proofs.reads.ds_of.Given as goal

abbrev pub invariant-nets : goal.invariant-nets
invariant-nets l = record {
  long : length l.ds.items ≡ l.net;
  kept : (k : ℕ) → k < l.net → slice_get l.ds.items k ≡ Some k;
}
