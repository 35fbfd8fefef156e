use Rattle.std.proofs.Common.{◌≡◌, drop, map, fold}
use Rattle.bb_drive.specs.Tallies.{tally}
use Rattle.bb_drive.proofs.drivers.note_clocks.Given as goal

abbrev pub invariant-loop-flop : goal.invariant-loop-flop
invariant-loop-flop l = fold tally l.counts (map (λ f. f.clock) (drop l.flop-index l.flops)) ≡ fold tally l.fn.counts (map (λ f. f.clock) l.flops)
