use Rattle.std.proofs.Common.{ℕ, ◌<◌, ◌≤◌, length, slice_index}
use Rattle.bb_base.proofs.drivers.judge.Given as goal

abbrev pub invariant-loop-net : goal.invariant-loop-net
invariant-loop-net l = (m : ℕ) → m < l.net → slice_index l.counts m ≤ 1

abbrev pub invariant-loop-net-2 : goal.invariant-loop-net-2
invariant-loop-net-2 l = record {
  few : (m : ℕ) → m < length l.counts → slice_index l.counts m ≤ 1;
  some : (m : ℕ) → m < l.net → 0 < slice_index l.counts m;
}
