use Rattle.std.proofs.Common.{◌≡◌, ◌<◌, ℕ, Some, length, slice_get, slice_index}
use Rattle.bb_base.specs.Parity.{code_bit}
use Rattle.bb_eqn.specs.Lanes.{lane, state_on}
use Rattle.bb_eqn.proofs.source.source_words.Given as goal

abbrev pub invariant-columns : goal.invariant-columns
invariant-columns l = record {
  long : length l.words ≡ length l.initial.words;
  coded : (j t column : ℕ) → j < l.place → slice_get l.columns j ≡ Some column → t < 64 → lane t (slice_index l.words j) ≡ code_bit column (state_on l.degree l.mask t l.first);
}
