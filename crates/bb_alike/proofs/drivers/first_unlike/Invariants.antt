use Rattle.std.proofs.Common.{ℕ, ◌<◌}
use Rattle.bb_net.specs.Sites.{site_of}
use Rattle.bb_alike.specs.Alike.{IsFedAlike}
use Rattle.bb_alike.proofs.drivers.first_unlike.Given as goal

abbrev pub invariant-loop-net : goal.invariant-loop-net
invariant-loop-net l = (m : ℕ) → m < l.net → IsFedAlike l.woven l.written (site_of l.woven m)
