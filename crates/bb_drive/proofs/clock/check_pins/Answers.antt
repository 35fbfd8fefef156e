use Rattle.std.proofs.Common.{arith, ◌∙◌, sym, ap, length, Some, ℕ, List}
use Rattle.std.specs.Prelude.{Option}
use Rattle.std.specs.Option.{option_map}
use Rattle.bb_fault.specs.declared.fault.ElabFault.TheVariants.{ClockNotInput}
use Rattle.bb_drive.specs.Nets.{bit_text}
use Rattle.bb_drive.proofs.ClockLaws.{nets_fit, pins_answer}
use Rattle.bb_drive.proofs.clock.check_pins.Goals as goal

pub unfed_pin-requires-clause-pins : goal.unfed_pin-requires-clause-pins
unfed_pin-requires-clause-pins c =
    nets_fit c.args.vars.now.entries c.args.work.now c.args.bits.now (length c.deref.result.now) c.requires.nets (ap length c.deref.ensures.value ∙ c.in_ok-pins.ensures.long)

pub unfed_pin-requires-clause-labels : goal.unfed_pin-requires-clause-labels
unfed_pin-requires-clause-labels c = nets_fit c.args.vars.now.entries c.args.work.now c.args.bits.now (length c.args.labels.now) c.requires.nets c.requires.fed.long

pub returns-in_default-clause-fine : goal.returns-in_default-clause-fine
returns-in_default-clause-fine c =
    let vars = c.args.vars.now.entries in
    let answer = pins_answer vars c.args.work.now c.deref.result.now c.in_ok-pins.pins.items c.args.labels.now c.args.bits.now c.unfed_pin.result c.deref.ensures.value c.requires.nets c.in_ok-pins.ensures c.requires.fed c.unfed_pin.ensures.first in
    answer ∙ ap (option_map (λ b. ClockNotInput (bit_text vars b).name (bit_text vars b).index)) c.in_default.is

pub returns-clause-fault : goal.returns-clause-fault
returns-clause-fault c = λ other.
    let vars = c.args.vars.now.entries in
    let answer = pins_answer vars c.args.work.now c.deref.result.now c.in_ok-pins.pins.items c.args.labels.now c.args.bits.now c.unfed_pin.result c.deref.ensures.value c.requires.nets c.in_ok-pins.ensures c.requires.fed c.unfed_pin.ensures.first in
    let all = answer ∙ ap (option_map (λ b. ClockNotInput (bit_text vars b).name (bit_text vars b).index)) c.in-Some.is in
    all ∙ sym (ap (λ (p : List ℕ × Option ℕ). Some (ClockNotInput p.0 p.1)) c.in_ok-name.ensures)

pub bit_text-requires : goal.bit_text-requires
bit_text-requires c = omega (arith, c.in-Some.ensures.inside, c.requires.fed.long, c.requires.total)
