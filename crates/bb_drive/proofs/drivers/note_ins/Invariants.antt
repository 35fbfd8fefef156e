use Rattle.std.proofs.Common.{◌≡◌, drop, fold}
use Rattle.std.specs.Prelude.{flat_map}
use Rattle.bb_drive.specs.Tallies.{tally}
use Rattle.bb_drive.proofs.drivers.note_ins.Given as goal

abbrev pub invariant-loop-gate : goal.invariant-loop-gate
invariant-loop-gate l = fold tally l.counts (flat_map (λ g. g.ins) (drop l.gate-index l.gates)) ≡ fold tally l.fn.counts (flat_map (λ g. g.ins) l.gates)
