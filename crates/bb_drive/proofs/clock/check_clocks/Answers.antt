use Rattle.std.proofs.Common.{◌∙◌, sym, ap, Some, None, ℕ, List}
use Rattle.std.specs.Prelude.{Option}
use Rattle.bb_fault.specs.declared.fault.ElabFault.TheVariants.{TwoClocks}
use Rattle.bb_fault.specs.Firsts.{on_some}
use Rattle.bb_fault.specs.Work.{Work}
use Rattle.bb_drive.specs.Nets.{bit_text}
use Rattle.bb_drive.specs.Origins.{other_label}
use Rattle.bb_drive.proofs.ClockBits.{clock_inside, other_inside}
use Rattle.bb_drive.proofs.ClockLaws.{two_is}
use Rattle.bb_drive.proofs.clock.check_clocks.Goals as goal

pub returns-in_default-other_label-clause-fine : goal.returns-in_default-other_label-clause-fine
returns-in_default-other_label-clause-fine c =
    let vars = c.args.vars.now.entries in
    let clock = c.in-Some.clock in
    let flops = c.deref.ensures.value ∙ ap (λ (w : Work). w.flops) c.work.view_is in
    let none = sym (ap (other_label clock c.args.labels.now) flops) ∙ (sym c.other_label.ensures ∙ c.in_default-other_label.is) in
    two_is vars c.args.work.now c.args.labels.now clock c.requires.pins (sym c.requires.clock ∙ c.in-Some.is)
    ∙ ap (λ o. on_some o None (λ second. Some (TwoClocks ((bit_text vars clock).name, (bit_text vars clock).index) ((bit_text vars second).name, (bit_text vars second).index)))) none

pub returns-clause-fault : goal.returns-clause-fault
returns-clause-fault c = λ other_fault.
    let vars = c.args.vars.now.entries in
    let clock = c.in-Some.clock in
    let other = c.in-Some-other_label.other in
    let flops = c.deref.ensures.value ∙ ap (λ (w : Work). w.flops) c.work.view_is in
    let some = sym (ap (other_label clock c.args.labels.now) flops) ∙ (sym c.other_label.ensures ∙ c.in-Some-other_label.is) in
    let all = two_is vars c.args.work.now c.args.labels.now clock c.requires.pins (sym c.requires.clock ∙ c.in-Some.is)
    ∙ ap (λ o. on_some o None (λ second. Some (TwoClocks ((bit_text vars clock).name, (bit_text vars clock).index) ((bit_text vars second).name, (bit_text vars second).index)))) some in
    all
    ∙ sym (ap (λ (p : List ℕ × Option ℕ). Some (TwoClocks p c.in_ok-second.second)) c.in_ok-first.ensures
    ∙ ap (λ (p : List ℕ × Option ℕ). Some (TwoClocks ((bit_text vars clock).name, (bit_text vars clock).index) p)) c.in_ok-second.ensures)

pub bit_text-requires : goal.bit_text-requires
bit_text-requires c = clock_inside c.args.vars.now.entries c.args.work.now c.args.labels.now c.in-Some.clock c.requires.within c.requires.fed c.requires.pins (sym c.requires.clock ∙ c.in-Some.is)

pub bit_text-requires-2 : goal.bit_text-requires-2
bit_text-requires-2 c =
    let flops = c.deref.ensures.value ∙ ap (λ (w : Work). w.flops) c.work.view_is in
    other_inside c.args.vars.now.entries c.args.work.now c.args.labels.now c.in-Some.clock c.in-Some-other_label.other c.requires.within c.requires.fed
    (sym (ap (other_label c.in-Some.clock c.args.labels.now) flops) ∙ (sym c.other_label.ensures ∙ c.in-Some-other_label.is))
