use Rattle.std.proofs.Common.{◌≡◌, ◌<◌, ℕ, length}
use Rattle.std.specs.Prelude.{Some, slice_get, slice_index}
use Rattle.bb_base.specs.Net.{Gate}
use Rattle.bb_base.specs.Levels.{open_count, depth_in}
use Rattle.bb_netlist.proofs.levels.first_waits.Given as goal

abbrev pub invariant-gates : goal.invariant-gates
invariant-gates l = record {
  long : length l.waits.items ≡ l.gate-index;
  each : (h : ℕ) (g : Gate ℕ) → h < l.gate-index → slice_get l.gates h ≡ Some g → slice_index l.waits.items h ≡ open_count (depth_in l.depths) g.ins;
}
