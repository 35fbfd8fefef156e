use Rattle.std.proofs.Common.{◌≡◌, ◌++◌, length, drop, take, map}
use Rattle.bb_eqn.specs.Values.{bits_at}
use Rattle.bb_eqn.proofs.clock.take_states.Given as goal

abbrev pub invariant-flops : goal.invariant-flops
invariant-flops l = record {
  long : length l.state ≡ length l.flops;
  so_far : take l.place l.state ++ map (λ f. bits_at l.values f.d) (drop l.place l.flops) ≡ map (λ f. bits_at l.values f.d) l.flops;
}
