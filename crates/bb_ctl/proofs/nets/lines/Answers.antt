use Rattle.std.proofs.Common.{◌≡◌, ◌∙◌, length, sym, ap, subst, arith}
use Rattle.std.specs.List.{AllByRecursion}
use Rattle.bb_base.specs.Net.{HasArity}
use Rattle.bb_terms.specs.Plan.{PlanValue}
use Rattle.bb_terms.specs.declared.wire.Wire.TheVariants.{Latches, Takes, Codes, First}
use Rattle.bb_terms.specs.Controller.{word_ahead}
use Rattle.bb_terms.specs.Registers.{control_rows}
use Rattle.bb_ctl.specs.Numbers.{HasNumbers}
use Rattle.bb_terms.specs.Numbering.{wires_in, HasWire}
use Rattle.bb_ctl.specs.ControlNets.{next_wires, of_registers}
use Rattle.bb_ctl.proofs.ArityLemmas.{rows_have_arities}
use Rattle.bb_ctl.proofs.CountLemmas.{valid_is_small, valid_has_numbers, rows_are_few}
use Rattle.bb_ctl.proofs.StandLemmas.{all_stand}
use Rattle.bb_ctl.proofs.nets.lines.Goals as goal

pub control_wires-requires-clause-numbers : goal.control_wires-requires-clause-numbers
control_wires-requires-clause-numbers c = subst HasNumbers (sym c.plan-plan.ensures) (valid_has_numbers c.requires.valid.0 c.args.valid.now.plan c.requires.valid.1)

pub control_wires-requires-clause-sessions : goal.control_wires-requires-clause-sessions
control_wires-requires-clause-sessions c =
    let small = valid_is_small c.requires.valid.0 c.args.valid.now.plan c.requires.valid.1 in
    omega (arith, ap (λ (p : PlanValue). length p.sessions) c.plan-plan.ensures, small.sessions)

pub control_nets-requires-clause-modes : goal.control_nets-requires-clause-modes
control_nets-requires-clause-modes c = (all_stand (HasWire c.args.builder.now c.args.kept.now) c.args.valid.now.plan c.requires.stands).modes

pub control_nets-requires-clause-word : goal.control_nets-requires-clause-word
control_nets-requires-clause-word c =
    subst (AllByRecursion (HasWire c.args.builder.now c.args.kept.now)) (sym (c.in_ok-wires.ensures.word ∙ ap word_ahead c.plan-plan.ensures))
    (all_stand (HasWire c.args.builder.now c.args.kept.now) c.args.valid.now.plan c.requires.stands).word

pub control_nets-requires-clause-next : goal.control_nets-requires-clause-next
control_nets-requires-clause-next c =
    subst (AllByRecursion (HasWire c.args.builder.now c.args.kept.now)) (sym (c.in_ok-wires.ensures.next ∙ ap next_wires c.plan-plan.ensures))
    (all_stand (HasWire c.args.builder.now c.args.kept.now) c.args.valid.now.plan c.requires.stands).next

pub control_nets-requires-clause-latches : goal.control_nets-requires-clause-latches
control_nets-requires-clause-latches c =
    subst (AllByRecursion (HasWire c.args.builder.now c.args.kept.now)) (sym (c.in_ok-wires.ensures.latches ∙ ap (of_registers Latches) c.plan-plan.ensures))
    (all_stand (HasWire c.args.builder.now c.args.kept.now) c.args.valid.now.plan c.requires.stands).latches

pub control_nets-requires-clause-takes : goal.control_nets-requires-clause-takes
control_nets-requires-clause-takes c =
    subst (AllByRecursion (HasWire c.args.builder.now c.args.kept.now)) (sym (c.in_ok-wires.ensures.takes ∙ ap (of_registers Takes) c.plan-plan.ensures))
    (all_stand (HasWire c.args.builder.now c.args.kept.now) c.args.valid.now.plan c.requires.stands).takes

pub control_nets-requires-clause-codes : goal.control_nets-requires-clause-codes
control_nets-requires-clause-codes c =
    subst (AllByRecursion (HasWire c.args.builder.now c.args.kept.now)) (sym (c.in_ok-wires.ensures.codes ∙ ap (of_registers Codes) c.plan-plan.ensures))
    (all_stand (HasWire c.args.builder.now c.args.kept.now) c.args.valid.now.plan c.requires.stands).codes

pub control_nets-requires-clause-first : goal.control_nets-requires-clause-first
control_nets-requires-clause-first c =
    subst (AllByRecursion (HasWire c.args.builder.now c.args.kept.now)) (sym (c.in_ok-wires.ensures.first ∙ ap (of_registers First) c.plan-plan.ensures))
    (all_stand (HasWire c.args.builder.now c.args.kept.now) c.args.valid.now.plan c.requires.stands).first

pub control_rows-requires : goal.control_rows-requires
control_rows-requires c = record { numbers = subst HasNumbers (sym c.plan-plan.ensures) (valid_has_numbers c.requires.valid.0 c.args.valid.now.plan c.requires.valid.1) }

pub add_rows-requires-clause-stands : goal.add_rows-requires-clause-stands
add_rows-requires-clause-stands c =
    let rows : c.deref.result.now ≡ control_rows c.args.valid.now.plan = c.deref.ensures.value ∙ c.in_ok-rows.ensures.rows ∙ ap control_rows c.plan-plan.ensures in
    subst (λ b. AllByRecursion (HasWire b c.args.kept.now) (wires_in c.deref.result.now)) (sym c.in_ok-nets.ensures.same)
    (subst (λ gs. AllByRecursion (HasWire c.args.builder.now c.args.kept.now) (wires_in gs)) (sym rows) c.requires.stands)

pub add_rows-requires-clause-arities : goal.add_rows-requires-clause-arities
add_rows-requires-clause-arities c =
    let rows : c.deref.result.now ≡ control_rows c.args.valid.now.plan = c.deref.ensures.value ∙ c.in_ok-rows.ensures.rows ∙ ap control_rows c.plan-plan.ensures in
    subst (AllByRecursion HasArity) (sym rows) (rows_have_arities c.requires.valid.0 c.args.valid.now.plan c.requires.valid.1)

pub add_rows-requires-clause-few : goal.add_rows-requires-clause-few
add_rows-requires-clause-few c =
    let rows : c.deref.result.now ≡ control_rows c.args.valid.now.plan = c.deref.ensures.value ∙ c.in_ok-rows.ensures.rows ∙ ap control_rows c.plan-plan.ensures in
    let few = rows_are_few c.requires.valid.0 c.args.valid.now.plan c.requires.valid.1 in
    omega (arith, ap length rows, few, ap (λ n. length n.netlist.gates) c.in_ok-nets.ensures.same, c.requires.few)
