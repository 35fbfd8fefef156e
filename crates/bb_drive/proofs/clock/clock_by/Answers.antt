use Rattle.std.proofs.Common.{◌<◌, ◌∙◌, ap, arith, false, length, Some}
use Rattle.std.proofs.lemmas.Option.{slice_get-get_or}
use Rattle.std.specs.Option.{option_or}
use Rattle.bb_fault.specs.Work.{Work}
use Rattle.bb_drive.specs.Clock.{clock_not_input, two_clocks, clock_as_data}
use Rattle.bb_drive.specs.Origins.{entry_at, is_marked, first_label, is_data_label}
use Rattle.bb_drive.proofs.ClockLaws.{pins_fed, first_origin, data_is}
use Rattle.bb_drive.proofs.Passed.{passed_first, passed_second}
use Rattle.bb_drive.proofs.clock.clock_by.Goals as goal

pub check_clocks-requires-clause-pins : goal.check_clocks-requires-clause-pins
check_clocks-requires-clause-pins c =
    pins_fed c.args.vars.now.entries c.args.work.now c.args.labels.now c.requires.within c.requires.fed c.in_ok-check_pins.ensures.fine

pub check_clocks-requires-clause-clock : goal.check_clocks-requires-clause-clock
check_clocks-requires-clause-clock c =
    let pins = pins_fed c.args.vars.now.entries c.args.work.now c.args.labels.now c.requires.within c.requires.fed c.in_ok-check_pins.ensures.fine in
    let flops = c.deref.ensures.value ∙ ap (λ (w : Work). w.flops) c.work.view_is in
    c.first_label-bit.ensures ∙ (ap (first_label c.args.labels.now) flops ∙ first_origin c.args.work.now c.args.labels.now pins)

pub check_reads-requires-clause-kinds : goal.check_reads-requires-clause-kinds
check_reads-requires-clause-kinds c = λ b small.
    let labels = c.args.labels.now in
    let pins = pins_fed c.args.vars.now.entries c.args.work.now labels c.requires.within c.requires.fed c.in_ok-check_pins.ensures.fine in
    let flops = c.deref.ensures.value ∙ ap (λ (w : Work). w.flops) c.work.view_is in
    let clock = c.first_label-bit.ensures ∙ (ap (first_label labels) flops ∙ first_origin c.args.work.now labels pins) in
    let within : b < length labels = omega (arith, c.requires.fed.long) in
    ap (λ ds. is_marked ds b) c.deref-2.ensures.value
    ∙ (c.in_ok-data.ensures.each b within ∙ (ap (λ k. is_data_label k (entry_at labels b)) clock ∙ data_is c.args.vars.now.entries c.args.work.now labels c.requires.within c.requires.fed pins b small))

pub returns-clause-clock : goal.returns-clause-clock
returns-clause-clock c =
    let pins = pins_fed c.args.vars.now.entries c.args.work.now c.args.labels.now c.requires.within c.requires.fed c.in_ok-check_pins.ensures.fine in
    let flops = c.deref.ensures.value ∙ ap (λ (w : Work). w.flops) c.work.view_is in
    c.first_label-bit.ensures ∙ (ap (first_label c.args.labels.now) flops ∙ first_origin c.args.work.now c.args.labels.now pins)

pub returns-clause-data : goal.returns-clause-data
returns-clause-data c = λ b small.
    let labels = c.args.labels.now in
    let pins = pins_fed c.args.vars.now.entries c.args.work.now labels c.requires.within c.requires.fed c.in_ok-check_pins.ensures.fine in
    let flops = c.deref.ensures.value ∙ ap (λ (w : Work). w.flops) c.work.view_is in
    let clock = c.first_label-bit.ensures ∙ (ap (first_label labels) flops ∙ first_origin c.args.work.now labels pins) in
    let within : b < length labels = omega (arith, c.requires.fed.long) in
    slice_get-get_or c.in_ok-data.data.items b false (omega (arith, c.in_ok-data.ensures.long))
    ∙ ap Some (c.in_ok-data.ensures.each b within ∙ (ap (λ k. is_data_label k (entry_at labels b)) clock ∙ data_is c.args.vars.now.entries c.args.work.now labels c.requires.within c.requires.fed pins b small))

pub returns-in_err-check_pins-clause-fault : goal.returns-in_err-check_pins-clause-fault
returns-in_err-check_pins-clause-fault c =
    let vars = c.args.vars.now.entries in
    let w = c.args.work.now in
    passed_first c.from_residual.result c.in_err-check_pins.field-0.0 (clock_not_input vars w) (option_or (two_clocks vars w) (clock_as_data vars w)) c.from_residual.ensures.1 c.in_err-check_pins.ensures.fault

pub returns-in_err-check_clocks-clause-fault : goal.returns-in_err-check_clocks-clause-fault
returns-in_err-check_clocks-clause-fault c =
    let vars = c.args.vars.now.entries in
    let w = c.args.work.now in
    passed_second c.from_residual-in_err-check_clocks.result c.in_err-check_clocks.field-0.0 (clock_not_input vars w) (option_or (two_clocks vars w) (clock_as_data vars w)) c.from_residual-in_err-check_clocks.ensures.1
    c.in_ok-check_pins.ensures.fine (λ other. ap (λ o. option_or o (clock_as_data vars w)) (c.in_err-check_clocks.ensures.fault other))

pub returns-in_err-check_reads-clause-fault : goal.returns-in_err-check_reads-clause-fault
returns-in_err-check_reads-clause-fault c =
    let vars = c.args.vars.now.entries in
    let w = c.args.work.now in
    passed_second c.from_residual-in_err-check_reads.result c.in_err-check_reads.field-0.0 (clock_not_input vars w) (option_or (two_clocks vars w) (clock_as_data vars w)) c.from_residual-in_err-check_reads.ensures.1
    c.in_ok-check_pins.ensures.fine (λ other. ap (λ o. option_or o (clock_as_data vars w)) c.in_ok-check_clocks.ensures.fine ∙ c.in_err-check_reads.ensures.fault other)
