use Rattle.std.proofs.Common.{◌≡◌, ◌++◌, ◌∷◌, [], length, rules}
use Rattle.bb_base.specs.Operators.{IsArity}
use Rattle.bb_net.proofs.ConsistentLemmas.{gate_added}
use Rattle.bb_net.proofs.builder.Builder.gate.Goals as goal

pub invariant_of-self-2 : goal.invariant_of-self-2
invariant_of-self-2 c =
    let arity : IsArity c.args.op (length c.args.ins.now) = search rules in
    let added : c.push.new.self.items ≡ c.self.inside.gates.items ++ record { op = c.args.op; out = c.args.out; ins = c.args.ins.now } ∷ [] = search rules in
    let kept = c.self.invariant in
    (gate_added _ c.args.self.now c.args.op c.args.out c.args.ins.now c.push.new.self.items c.self.view_is kept.0 c.requires.out c.requires.ins arity added, kept.1, kept.2, kept.3)
