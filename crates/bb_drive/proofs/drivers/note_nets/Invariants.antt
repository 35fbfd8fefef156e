use Rattle.std.proofs.Common.{◌≡◌, drop, fold}
use Rattle.bb_drive.specs.Tallies.{tally}
use Rattle.bb_drive.proofs.drivers.note_nets.Given as goal

abbrev pub invariant-loop-net : goal.invariant-loop-net
invariant-loop-net l = fold tally l.counts (drop l.net-index l.nets) ≡ fold tally l.fn.counts l.nets
