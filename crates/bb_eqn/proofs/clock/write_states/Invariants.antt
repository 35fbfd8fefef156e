use Rattle.std.proofs.Common.{◌≡◌, length, drop, map}
use Rattle.bb_eqn.proofs.Written.{written}
use Rattle.bb_eqn.proofs.clock.write_states.Given as goal

abbrev pub invariant-flops : goal.invariant-flops
invariant-flops l = record {
  long : length l.values ≡ length l.initial.values;
  so_far : written (map (λ f. f.q) (drop l.place l.flops)) (drop l.place l.bits) l.values ≡ written (map (λ f. f.q) l.flops) l.bits l.initial.values;
}
