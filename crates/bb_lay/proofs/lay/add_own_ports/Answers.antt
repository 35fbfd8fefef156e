use Rattle.std.proofs.Common.{arith, ◌≡◌, ◌<◌, ◌∷◌, [], ◌++◌, ap, subst, sym, length, length-append, ◌∙◌}
use Rattle.bb_base.specs.Variables.{clock_place, ports_of}
use Rattle.bb_base.specs.Named.{Named}
use Rattle.bb_base.specs.Building.{with_variable}
use Rattle.bb_lay.specs.Laying.{CanStand}
use Rattle.bb_lay.proofs.OwnPorts.{ports_begin, port_can, port_clock, port_step, ports_end}
use Rattle.bb_lay.proofs.lay.add_own_ports.Goals as goal

pub declare-requires-clause-stand : goal.declare-requires-clause-stand
declare-requires-clause-stand c =
    let a = c.args.named.now in
    let less : c.ports.number < ports_of a.variables = omega (arith, c.ports-test.true, c.ports-number-end.ensures.count) in
    subst (λ name. CanStand (c.ports.builder.variables ++ (name, c.variable.result.1) ∷ [])) (sym c.in_ok-copy.ensures)
    (port_can a c.args.builder.now c.variable.ensures.named.consistent c.requires.started c.ports.builder c.ports.number c.variable.result.0.now c.variable.result.1 c.ports.invariant.goes c.variable.ensures.value less c.requires.stand)

pub declare-requires-clause-clock : goal.declare-requires-clause-clock
declare-requires-clause-clock c = λ p is.
    let a = c.args.named.now in
    let less : c.ports.number < ports_of a.variables = omega (arith, c.ports-test.true, c.ports-number-end.ensures.count) in
    port_clock a c.args.builder.now c.variable.ensures.named.consistent c.requires.started c.ports.builder c.ports.number c.variable.result.0.now c.variable.result.1 c.ports.invariant.goes c.variable.ensures.value less p
    (sym (ap (λ o. clock_place o c.ports.number) c.clock.ensures.value) ∙ sym c.clock_in-clock.ensures ∙ is)

pub ports-init : goal.ports-init
ports-init c = record { goes = ports_begin c.args.named.now c.args.builder.now c.ports-number-end.ensures.named.consistent c.requires.started; count = ap (λ (k : Named). length k.variables) c.requires.started }

pub ports-preserved : goal.ports-preserved
ports-preserved c =
    let a = c.args.named.now in
    let n = c.ports.number in
    let less : n < ports_of a.variables = omega (arith, c.ports-test.true, c.ports-number-end.ensures.count) in
    let place : c.clock_in-clock.result ≡ clock_place a.clock n = c.clock_in-clock.ensures ∙ ap (λ o. clock_place o n) c.clock.ensures.value in
    let added : c.declare.new.builder ≡ with_variable c.ports.builder c.variable.result.0.now c.variable.result.1 (clock_place a.clock n) =
    c.in_ok-declare.ensures.added ∙ (λ i. with_variable c.ports.builder (c.in_ok-copy.ensures i) c.variable.result.1 (place i)) in
    record {
      goes = port_step a c.args.builder.now c.variable.ensures.named.consistent c.requires.started c.ports.builder n c.variable.result.0.now c.variable.result.1 c.ports.invariant.goes c.variable.ensures.value less c.declare.new.builder c.ports.invariant.count added;
      count = omega (arith, ap (λ (k : Named). length k.variables) added, length-append c.ports.builder.variables ((c.variable.result.0.now, c.variable.result.1) ∷ []), c.ports.invariant.count);
    }

pub returns-clause-adds : goal.returns-clause-adds
returns-clause-adds c =
    let all : c.ports.number ≡ ports_of c.args.named.now.variables = omega (arith, c.ports-test.false, c.ports-number-end.ensures.count) in
    ports_end c.args.named.now c.args.builder.now c.ports-number-end.ensures.named.consistent c.requires.started c.ports.builder c.ports.number c.ports.invariant.goes all
