use Rattle.std.proofs.Common.{◌≡◌, drop, fold}
use Rattle.bb_drive.specs.Nets.{bits_from}
use Rattle.bb_drive.specs.Tallies.{tally, is_role}
use Rattle.bb_drive.proofs.drivers.note_role.Given as goal

abbrev pub invariant-loop-index : goal.invariant-loop-index
invariant-loop-index l = fold tally l.counts (bits_from (is_role l.wanted) l.first (drop l.index l.vars.entries)) ≡ fold tally l.fn.counts (bits_from (is_role l.wanted) 0 l.vars.entries)
