use Rattle.std.proofs.Common.{◌≡◌, ◌<◌, ◌≤◌, ℕ, Some, slice_get}
use Rattle.std.specs.Prelude.{nat_eq}
use Rattle.std.specs.Set.{distinct_count}
use Rattle.bb_base.specs.Net.{Gate}
use Rattle.bb_segment.proofs.sets.check_widths.Given as goal

abbrev pub invariant-gates : goal.invariant-gates
invariant-gates l = (h : ℕ) (g : Gate ℕ) → h < l.number → slice_get l.gates h ≡ Some g → distinct_count nat_eq g.ins ≤ l.width
