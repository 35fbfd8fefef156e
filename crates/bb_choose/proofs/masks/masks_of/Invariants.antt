use Rattle.std.proofs.Common.{◌≡◌, ◌<◌, ◌≤◌, ℕ, length, slice_index}
use Rattle.bb_base.specs.Firsts.{IsLeast}
use Rattle.bb_terms.specs.Register.{IsFullMask}
use Rattle.bb_choose.specs.Choice.{IsUnmasked}
use Rattle.bb_choose.specs.Coding.{HasLength}
use Rattle.bb_choose.proofs.masks.masks_of.Given as goal

abbrev pub invariant-lengths : goal.invariant-lengths
invariant-lengths l = record {
  long : length l.masks.items ≡ l.cells;
  masks : (cells : ℕ) → 1 ≤ cells → cells < l.cells → HasLength l.registers cells → IsLeast (IsFullMask cells) (slice_index l.masks.items cells);
  before : (cells : ℕ) → 1 ≤ cells → cells < l.cells → IsUnmasked l.registers cells → ⊥;
}
