use Rattle.std.proofs.Common.{◌≡◌, ◌<◌, ℕ, length, slice_get, Some}
use Rattle.bb_terms.specs.declared.wire.Wire.TheVariants.{Kept}
use Rattle.bb_lay.proofs.reads.reads_of.Given as goal

abbrev pub invariant-nets : goal.invariant-nets
invariant-nets l = record {
  long : length l.reads.items ≡ l.net;
  kept : (k : ℕ) → k < l.net → slice_get l.reads.items k ≡ Some (Kept k);
}
