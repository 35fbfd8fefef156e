use Rattle.std.proofs.Common.{◌≡◌, ℕ, ◌<◌, None, Some, slice_get}
use Rattle.bb_alike.proofs.comparison.has_more.Given as goal

abbrev pub invariant-nets : goal.invariant-nets
invariant-nets l = (i : ℕ) → i < l.net-index → slice_get l.nets i ≡ Some None → ⊥
