use Rattle.std.proofs.Common.{◌≡◌, ◌<◌, ℕ, length}
use Rattle.std.specs.Prelude.{Some, slice_get, slice_index}
use Rattle.bb_base.specs.Net.{Gate}
use Rattle.bb_base.specs.Levels.{key_at, depth_in}
use Rattle.bb_netlist.proofs.order.keys_of.Given as goal

abbrev pub invariant-gates : goal.invariant-gates
invariant-gates l = record {
  long : length l.keys.items ≡ l.number;
  each : (h : ℕ) (g : Gate ℕ) → h < l.number → slice_get l.gates h ≡ Some g → slice_index l.keys.items h ≡ key_at (depth_in l.depths g.out) h;
}
