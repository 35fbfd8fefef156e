use Rattle.std.proofs.Common.{◌≡◌, drop, map, fold}
use Rattle.bb_drive.specs.Tallies.{tally}
use Rattle.bb_drive.proofs.drivers.note_outs.Given as goal

abbrev pub invariant-loop-gate : goal.invariant-loop-gate
invariant-loop-gate l = fold tally l.counts (map (λ g. g.out) (drop l.gate-index l.gates)) ≡ fold tally l.fn.counts (map (λ g. g.out) l.gates)
