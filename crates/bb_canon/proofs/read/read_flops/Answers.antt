use Rattle.std.proofs.Common.{◌≡◌, true, false, None, sym, rules}
use Rattle.std.proofs.lemmas.Result.{err_from_is_err_and}
use Rattle.bb_canon.specs.Sections.{clocks}
use Rattle.bb_spell.specs.TextLines.{first_line}
use Rattle.bb_canon.proofs.AlongLemmas.{flop_goes, flops_stop, flops_end}
use Rattle.bb_canon.proofs.Sections.{section_goes, section_stops, section_ends}
use Rattle.bb_canon.proofs.read.read_flops.Goals as goal

pub returns-in_default-clause-rest : goal.returns-in_default-clause-rest
returns-in_default-clause-rest c = λ others h.
    let none : first_line c.lines.rest.now ≡ None = sym c.in_default.ensures.value in
    section_ends clocks c.lines.rest.now others (c.lines.invariant.section others h) none

pub returns-then-not-is_flop-clause-rest : goal.returns-then-not-is_flop-clause-rest
returns-then-not-is_flop-clause-rest c = λ others h.
    let t : clocks c.in-Some.line.now ≡ false = search rules in
    section_stops clocks c.lines.rest.now others c.in-Some.line.now c.in-Some.after.now (c.lines.invariant.section others h) (sym c.in-Some.ensures.value) t

pub lines-preserved : goal.lines-preserved
lines-preserved c = record {
  section = λ others h.
      let t : clocks c.in-Some.line.now ≡ true = search rules in
      section_goes clocks c.lines.rest.now others c.in-Some.line.now c.in-Some.after.now (c.lines.invariant.section others h) (sym c.in-Some.ensures.value) t;
  left = λ a others b h.
      let t : clocks c.in-Some.line.now ≡ true = search rules in
      let goes = flop_goes a c.lines.draft c.lines.rest.now others c.in-Some.line.now c.in-Some.after.now b (c.lines.invariant.left a others b h) (sym c.in-Some.ensures.value) t in
      goes.more c.read_instance.new.draft (c.in_ok-read_instance.ensures.drawn a goes.done goes.flop b goes.drawn goes.is goes.few goes.said);
}

pub returns-in_default-clause-drawn : goal.returns-in_default-clause-drawn
returns-in_default-clause-drawn c = λ a others b h.
    let none : first_line c.lines.rest.now ≡ None = sym c.in_default.ensures.value in
    flops_end a c.lines.draft c.lines.rest.now others (c.lines.invariant.left a others b h) none

pub returns-then-not-is_flop-clause-drawn : goal.returns-then-not-is_flop-clause-drawn
returns-then-not-is_flop-clause-drawn c = λ a others b h.
    let t : clocks c.in-Some.line.now ≡ false = search rules in
    flops_stop a c.lines.draft c.lines.rest.now others c.in-Some.line.now c.in-Some.after.now (c.lines.invariant.left a others b h) (sym c.in-Some.ensures.value) t

pub returns-in_err-read_instance-clause-want : goal.returns-in_err-read_instance-clause-want
returns-in_err-read_instance-clause-want c = λ a others b h.
    let t : clocks c.in-Some.line.now ≡ true = search rules in
    let goes = flop_goes a c.lines.draft c.lines.rest.now others c.in-Some.line.now c.in-Some.after.now b (c.lines.invariant.left a others b h) (sym c.in-Some.ensures.value) t in
    let p = err_from_is_err_and c.from_residual.result c.from_residual.ensures.1 in
    rw (p.1, p.2) (c.in_err-read_instance.ensures.want a goes.done goes.flop b goes.drawn goes.is goes.few goes.said)
