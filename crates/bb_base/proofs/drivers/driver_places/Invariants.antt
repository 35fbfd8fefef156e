use Rattle.std.proofs.Common.{◌≡◌, ℕ, ◌<◌, length, take, slice_index, slice_get, Some}
use Rattle.bb_base.specs.Net.{times}
use Rattle.bb_base.proofs.drivers.driver_places.Given as goal

-- nets among those so far have a place
abbrev pub invariant-loop-place : goal.invariant-loop-place
invariant-loop-place l = record {
  long : length l.places.items ≡ l.nets;
  each : (m : ℕ) → m < l.nets → 0 < times m (take l.place l.driven) → slice_get l.driven (slice_index l.places.items m) ≡ Some m;
}
