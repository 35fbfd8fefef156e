use Rattle.std.proofs.Common.{◌≡◌, length, drop}
use Rattle.bb_eqn.proofs.Evaluated.{evaluated}
use Rattle.bb_eqn.proofs.gate.evaluate.Given as goal

abbrev pub invariant-loop-gate : goal.invariant-loop-gate
invariant-loop-gate l = record {
  long : length l.values ≡ length l.initial.values;
  so_far : evaluated (drop l.gate-index l.gates) l.values ≡ evaluated l.gates l.initial.values;
}
