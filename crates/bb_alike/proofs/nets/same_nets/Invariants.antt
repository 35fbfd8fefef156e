use Rattle.std.proofs.Common.{◌≡◌, ℕ, length, Option, Some, slice_get}
use Rattle.bb_net.specs.Sites.{site_of}
use Rattle.bb_alike.specs.Found.{IsNetAt}
use Rattle.bb_alike.proofs.nets.same_nets.Given as goal

abbrev pub invariant-loop-net : goal.invariant-loop-net
invariant-loop-net l = record {
  long : length l.nets.items ≡ l.net;
  each : (net : ℕ) (found : Option ℕ) → slice_get l.nets.items net ≡ Some found → IsNetAt l.within (site_of l.of net) found;
}
