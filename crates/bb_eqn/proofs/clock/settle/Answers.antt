use Rattle.std.proofs.Common.{arith, ◌≡◌, ◌<◌, ◌≤◌, ℕ, List, sym, subst, length, map, All, []}
use Rattle.std.specs.List.{AllByRecursion}
use Rattle.bb_base.specs.Net.{Gate, Flop, driven, times}
use Rattle.bb_base.specs.Order.{drivers}
use Rattle.bb_base.specs.Run.{Meets}
use Rattle.bb_eqn.specs.Values.{bits_at}
use Rattle.bb_eqn.proofs.Settled.{settled, inputs_once, states_once, outs_once, states_below, outs_below, ins_below}
use Rattle.bb_eqn.proofs.clock.settle.Goals as goal

pub write_nets-requires-clause-once : goal.write_nets-requires-clause-once
write_nets-requires-clause-once c = subst (λ (xs : List ℕ). (net : ℕ) → times net xs ≤ 1) (sym c.inputs.ensures.value) (inputs_once c.args.netlist.now c.inputs.ensures.netlist)

pub write_states-requires-clause-within : goal.write_states-requires-clause-within
write_states-requires-clause-within c =
    let long : length (driven c.args.netlist.now) ≡ length c.write_nets.new.values = omega (arith, c.requires.values, c.write_nets.ensures.long) in
    subst (λ (t : ℕ). All (λ (f : Flop ℕ). f.q < t) c.flops.result.now) long
    (subst (λ (fs : List (Flop ℕ)). All (λ f. f.q < length (driven c.args.netlist.now)) fs) (sym c.flops.ensures.value) (states_below c.args.netlist.now c.inputs.ensures.netlist))

pub write_states-requires-clause-once : goal.write_states-requires-clause-once
write_states-requires-clause-once c = subst (λ (fs : List (Flop ℕ)). (net : ℕ) → times net (map (λ f. f.q) fs) ≤ 1) (sym c.flops.ensures.value) (states_once c.args.netlist.now c.inputs.ensures.netlist)

pub write_gates-requires-clause-drives : goal.write_gates-requires-clause-drives
write_gates-requires-clause-drives c =
    let long : length (driven c.args.netlist.now) ≡ length c.write_states.new.values = omega (arith, c.requires.values, c.write_nets.ensures.long, c.write_states.ensures.long) in
    subst (λ (t : ℕ). All (λ (g : Gate ℕ). g.out < t) c.gates.result.now) long
    (subst (λ (gs : List (Gate ℕ)). All (λ g. g.out < length (driven c.args.netlist.now)) gs) (sym c.gates.ensures.value) (outs_below c.args.netlist.now c.inputs.ensures.netlist))

pub write_gates-requires-clause-reads : goal.write_gates-requires-clause-reads
write_gates-requires-clause-reads c =
    let long : length (driven c.args.netlist.now) ≡ length c.write_states.new.values = omega (arith, c.requires.values, c.write_nets.ensures.long, c.write_states.ensures.long) in
    subst (λ (t : ℕ). All (λ (g : Gate ℕ). All (λ n. n < t) g.ins) c.gates.result.now) long
    (subst (λ (gs : List (Gate ℕ)). All (λ g. All (λ n. n < length (driven c.args.netlist.now)) g.ins) gs) (sym c.gates.ensures.value) (ins_below c.args.netlist.now c.inputs.ensures.netlist))

pub write_gates-requires-clause-once : goal.write_gates-requires-clause-once
write_gates-requires-clause-once c = subst (λ (gs : List (Gate ℕ)). (net : ℕ) → times net (map (λ g. g.out) gs) ≤ 1) (sym c.gates.ensures.value) (outs_once c.args.netlist.now c.inputs.ensures.netlist)

pub returns-clause-settles : goal.returns-clause-settles
returns-clause-settles c =
    settled c.args.netlist.now c.inputs.ensures.netlist c.args.inputs.now c.args.state.now (bits_at c.write_nets.new.values) (bits_at c.write_states.new.values) (bits_at c.write_gates.new.values)
    (subst (λ (xs : List ℕ). map (bits_at c.write_nets.new.values) xs ≡ c.args.inputs.now) c.inputs.ensures.value c.write_nets.ensures.written)
    (subst (λ (fs : List (Flop ℕ)). map (λ f. bits_at c.write_states.new.values f.q) fs ≡ c.args.state.now) c.flops.ensures.value c.write_states.ensures.written)
    (subst (λ (fs : List (Flop ℕ)). (net : ℕ) → times net (map (λ f. f.q) fs) ≡ 0 → bits_at c.write_states.new.values net ≡ bits_at c.write_nets.new.values net) c.flops.ensures.value c.write_states.ensures.kept)
    (subst (λ (gs : List (Gate ℕ)). AllByRecursion (Meets (bits_at c.write_gates.new.values)) gs) c.gates.ensures.value c.write_gates.ensures.met)
    (subst (λ (gs : List (Gate ℕ)). (net : ℕ) → drivers gs net ≡ [] → bits_at c.write_gates.new.values net ≡ bits_at c.write_states.new.values net) c.gates.ensures.value c.write_gates.ensures.kept)
