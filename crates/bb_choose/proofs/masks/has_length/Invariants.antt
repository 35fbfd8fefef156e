use Rattle.std.proofs.Common.{◌≡◌, ◌<◌, ℕ, length, slice_get, Some}
use Rattle.bb_terms.specs.Plan.{RegisterValue}
use Rattle.bb_choose.proofs.masks.has_length.Given as goal

abbrev pub invariant-registers : goal.invariant-registers
invariant-registers l = (i : ℕ) (g : RegisterValue) → i < l.register-index → slice_get l.registers i ≡ Some g → length g.cells ≡ l.cells → ⊥
