use Rattle.std.proofs.Common.{◌≡◌, ℕ, ◌<◌, length, min, take, slice_index}
use Rattle.bb_base.specs.Net.{times}
use Rattle.bb_base.proofs.drivers.driver_counts.Given as goal

abbrev pub invariant-loop-net : goal.invariant-loop-net
invariant-loop-net l = record {
  long : length l.counts.items ≡ l.nets;
  each : (m : ℕ) → m < l.nets → slice_index l.counts.items m ≡ min 2 (times m (take l.net-index l.driven));
}
