use Rattle.std.proofs.Common.{◌≡◌, ℕ, true, drop, length, Contains}
use Rattle.bb_segment.specs.Walks.{is_marked_net}
use Rattle.bb_segment.proofs.walk.clear.Given as goal

abbrev pub invariant-nets : goal.invariant-nets
invariant-nets l = record {
  long : length l.marks ≡ length l.fn.marks;
  left : (net : ℕ) → is_marked_net l.marks net ≡ true → Contains (drop l.net-index l.met) net;
}
