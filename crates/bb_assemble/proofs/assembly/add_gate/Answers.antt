use Rattle.std.proofs.Common.{◌≡◌, ap, subst, sym, ◌∙◌, length, map, Err, rules}
use Rattle.bb_base.specs.Operators.{IsArity}
use Rattle.bb_base.proofs.Lists.{length_map}
use Rattle.bb_assemble.specs.Assembling.{number_for}
use Rattle.bb_assemble.proofs.KeptGates.{nets_small}
use Rattle.bb_net.proofs.OnlyMemory.{gate_memory}
use Rattle.bb_assemble.proofs.assembly.add_gate.Goals as goal

pub gate-requires-clause-ins : goal.gate-requires-clause-ins
gate-requires-clause-ins c =
    let read : c.as_slice.result.now ≡ c.args.gate.now.ins = search rules in
    nets_small c.args.numbers.now c.args.count (length c.args.builder.now.names) c.args.gate.now c.deref.result.now c.requires.nets c.requires.names
    (c.deref.ensures.value ∙ c.in_ok-ins.ensures ∙ ap (map (number_for c.args.numbers.now)) read)

pub only_memory-requires : goal.only_memory-requires
only_memory-requires c =
    let read : c.as_slice.result.now ≡ c.args.gate.now.ins = search rules in
    let nets : c.deref.result.now ≡ map (number_for c.args.numbers.now) c.args.gate.now.ins =
    c.deref.ensures.value ∙ c.in_ok-ins.ensures ∙ ap (map (number_for c.args.numbers.now)) read in
    let long : length c.deref.result.now ≡ length c.args.gate.now.ins = ap length nets ∙ length_map (number_for c.args.numbers.now) c.args.gate.now.ins in
    let arity : IsArity c.args.gate.now.op (length c.deref.result.now) = subst (IsArity c.args.gate.now.op) (sym long) c.requires.arity in
    let whole = c.in-Err.ensures.arity in
    gate_memory c.in-Err.fault c.in-Err.ensures.only (λ gate e. ((whole gate).0 (ap Err e)).1 (search (rules, arity)))
