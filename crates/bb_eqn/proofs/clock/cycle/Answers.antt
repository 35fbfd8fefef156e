use Rattle.std.proofs.Common.{arith, ◌≡◌, ◌<◌, ℕ, List, sym, subst, length, All}
use Rattle.bb_base.specs.Net.{Flop, driven}
use Rattle.bb_eqn.proofs.Settled.{taken_below}
use Rattle.bb_eqn.proofs.clock.cycle.Goals as goal

pub take_states-requires-clause-within : goal.take_states-requires-clause-within
take_states-requires-clause-within c =
    let long : length (driven c.args.netlist.now) ≡ length c.settle.new.values = omega (arith, c.requires.values, c.settle.ensures.long) in
    subst (λ (t : ℕ). All (λ (f : Flop ℕ). f.d < t) c.flops.result.now) long
    (subst (λ (fs : List (Flop ℕ)). All (λ f. f.d < length (driven c.args.netlist.now)) fs) (sym c.flops.ensures.value) (taken_below c.args.netlist.now c.flops.ensures.netlist))
