use Rattle.std.proofs.Common.{◌≡◌, Some, None, true, false, sym, ap, subst, ◌∙◌, rules}
use Rattle.std.proofs.lemmas.Option.{same_Some}
use Rattle.bb_canon.specs.Sections.{clocks}
use Rattle.bb_spell.specs.Lines.{flop_of}
use Rattle.bb_spell.specs.TextLines.{first_line}
use Rattle.bb_spell.specs.Front.{Fails}
use Rattle.bb_canon.specs.Along.{clock_text}
use Rattle.bb_canon.proofs.Whole.{clock_goes, clock_found, clock_none}
use Rattle.bb_canon.proofs.read.find_clock.Goals as goal

pub returns-in-Ok-clause-clock : goal.returns-in-Ok-clause-clock
returns-in-Ok-clause-clock c = λ a h.
    let t : clocks c.in-Some.line.now ≡ true = search rules in
    let there = clock_found (clock_text a) c.lines.rest.now c.in-Some.line.now c.in-Some.after.now (c.lines.invariant a h) (sym c.in-Some.ensures.value) t in
    let same : c.in-Ok.instance ≡ there.0 = same_Some c.in-Ok.instance there.0 (sym c.in-Ok.ensures ∙ there.1) in
    ap Some (ap (λ k. k.clock) (c.instance.view_is ∙ same)) ∙ there.2

pub returns-in-Err-NotCanonical-clause-clock : goal.returns-in-Err-NotCanonical-clause-clock
returns-in-Err-NotCanonical-clause-clock c = λ a h.
    let t : clocks c.in-Some.line.now ≡ true = search rules in
    let there = clock_found (clock_text a) c.lines.rest.now c.in-Some.line.now c.in-Some.after.now (c.lines.invariant a h) (sym c.in-Some.ensures.value) t in
    let none : flop_of c.in-Some.line.now ≡ None = subst (λ e. Fails e (flop_of c.in-Some.line.now)) c.in-Err-NotCanonical.field-0-is c.in-Err-NotCanonical.ensures in
    cc (sym none ∙ there.1)

pub lines-preserved : goal.lines-preserved
lines-preserved c = λ a h.
    let t : clocks c.in-Some.line.now ≡ false = search rules in
    clock_goes (clock_text a) c.lines.rest.now c.in-Some.line.now c.in-Some.after.now (c.lines.invariant a h) (sym c.in-Some.ensures.value) t

pub returns-clause-clock : goal.returns-clause-clock
returns-clause-clock c = λ a h.
    let none : first_line c.lines.rest.now ≡ None = sym c.in_default.ensures.value in
    sym (clock_none (clock_text a) c.lines.rest.now (c.lines.invariant a h) none)
