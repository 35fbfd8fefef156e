use Rattle.std.proofs.Common.{arith, ◌≡◌, ◌≤◌, ◌∷◌, [], ◌++◌, ap, subst, sym, length, drop}
use Rattle.bb_base.specs.Variables.{ports_of, range_width}
use Rattle.bb_lay.specs.Laying.{AddsAll, CanStand, net_bits, all_net_bits}
use Rattle.bb_lay.proofs.Adding.{last_of}
use Rattle.bb_lay.proofs.Clocks.{wire_at, drop_all}
use Rattle.bb_lay.proofs.OwnWires.{own_can, own_step}
use Rattle.bb_lay.proofs.lay.add_own_wires.Goals as goal

pub add_own_wire-requires-clause-wire : goal.add_own_wire-requires-clause-wire
add_own_wire-requires-clause-wire c =
    let past : ports_of c.args.named.now.variables ≤ c.wires.of = omega (arith, c.ports-of.ensures.count) in
    wire_at c.args.named.now.variables c.variable.ensures.named.consistent.ports_first c.wires.of _ c.variable.ensures.value past

pub add_own_wire-requires-clause-stand : goal.add_own_wire-requires-clause-stand
add_own_wire-requires-clause-stand c =
    let a = c.args.named.now in
    let all = drop (ports_of a.variables) a.variables in
    subst (λ name. CanStand (c.wires.builder.variables ++ (name, c.variable.result.1) ∷ [])) (sym c.in_ok-copy.ensures)
    (own_can c.args.builder.now c.wires.builder a.names a.variables c.wires.of c.variable.result.0.now c.variable.result.1 all (all_net_bits a.names (ports_of a.variables) (length c.args.builder.now.variables) all) c.variable.ensures.value c.wires.invariant c.requires.stand)

pub wires-preserved : goal.wires-preserved
wires-preserved c =
    let a = c.args.named.now in
    let all = drop (ports_of a.variables) a.variables in
    let adds = subst (λ name. AddsAll c.wires.builder c.add_own_wire.new.builder ((name, c.variable.result.1) ∷ []) (net_bits a.names c.wires.of (length c.wires.builder.variables) (range_width c.variable.result.1.range)) c.wires.builder.clock) c.in_ok-copy.ensures c.in_ok-add_own_wire.ensures.adds in
    own_step c.args.builder.now c.wires.builder a.names a.variables c.wires.of c.variable.result.0.now c.variable.result.1 all (all_net_bits a.names (ports_of a.variables) (length c.args.builder.now.variables) all) c.variable.ensures.value c.wires.invariant c.add_own_wire.new.builder adds c.in_ok-add_own_wire.ensures.laid

pub returns-clause-adds : goal.returns-clause-adds
returns-clause-adds c =
    let a = c.args.named.now in
    let all = drop (ports_of a.variables) a.variables in
    let none : drop c.wires.of a.variables ≡ [] = drop_all c.wires.of a.variables (omega (arith, c.wires-test.false, c.variables-of-end.ensures.count)) in
    last_of c.args.builder.now c.wires.builder (drop c.wires.of a.variables) all (all_net_bits a.names c.wires.of (length c.wires.builder.variables) (drop c.wires.of a.variables)) (all_net_bits a.names (ports_of a.variables) (length c.args.builder.now.variables) all) c.args.builder.now.clock
    c.wires.invariant none (ap (all_net_bits a.names c.wires.of (length c.wires.builder.variables)) none)
