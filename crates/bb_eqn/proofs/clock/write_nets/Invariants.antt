use Rattle.std.proofs.Common.{◌≡◌, length, drop}
use Rattle.bb_eqn.proofs.Written.{written}
use Rattle.bb_eqn.proofs.clock.write_nets.Given as goal

abbrev pub invariant-nets : goal.invariant-nets
invariant-nets l = record {
  long : length l.values ≡ length l.initial.values;
  so_far : written (drop l.place l.nets) (drop l.place l.bits) l.values ≡ written l.nets l.bits l.initial.values;
}
