use Rattle.std.proofs.Common.{◌≡◌, length, drop}
use Rattle.bb_eqn.proofs.Evaluated.{evaluated}
use Rattle.bb_eqn.proofs.Picked.{picked}
use Rattle.bb_eqn.proofs.clock.write_gates.Given as goal

abbrev pub invariant-loop-number : goal.invariant-loop-number
invariant-loop-number l = record {
  long : length l.values ≡ length l.initial.values;
  so_far : evaluated (picked l.gates (drop l.number-index l.order)) l.values ≡ evaluated (picked l.gates l.order) l.initial.values;
}
