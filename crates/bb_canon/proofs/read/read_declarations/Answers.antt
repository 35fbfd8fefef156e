use Rattle.std.proofs.Common.{◌≡◌, true, false, None, sym, rules}
use Rattle.std.proofs.lemmas.Result.{err_from_is_err_and}
use Rattle.bb_canon.specs.Sections.{declares}
use Rattle.bb_spell.specs.TextLines.{first_line}
use Rattle.bb_canon.proofs.AlongLemmas.{variable_goes, variables_stop, variables_end}
use Rattle.bb_canon.proofs.Sections.{section_goes, section_stops, section_ends}
use Rattle.bb_canon.proofs.read.read_declarations.Goals as goal

pub returns-in_default-clause-rest : goal.returns-in_default-clause-rest
returns-in_default-clause-rest c = λ others h.
    let none : first_line c.lines.rest.now ≡ None = sym c.in_default.ensures.value in
    section_ends declares c.lines.rest.now others (c.lines.invariant.section others h) none

pub returns-then-not-is_declaration-clause-rest : goal.returns-then-not-is_declaration-clause-rest
returns-then-not-is_declaration-clause-rest c = λ others h.
    let t : declares c.in-Some.line.now ≡ false = search rules in
    section_stops declares c.lines.rest.now others c.in-Some.line.now c.in-Some.after.now (c.lines.invariant.section others h) (sym c.in-Some.ensures.value) t

pub lines-preserved : goal.lines-preserved
lines-preserved c = record {
  section = λ others h.
      let t : declares c.in-Some.line.now ≡ true = search rules in
      section_goes declares c.lines.rest.now others c.in-Some.line.now c.in-Some.after.now (c.lines.invariant.section others h) (sym c.in-Some.ensures.value) t;
  left = λ a others b k h.
      let t : declares c.in-Some.line.now ≡ true = search rules in
      let goes = variable_goes a c.lines.draft c.lines.rest.now others c.in-Some.line.now c.in-Some.after.now (c.lines.invariant.left a others b k h) (sym c.in-Some.ensures.value) t in
      goes.more c.read_variable.new.draft (c.in_ok-read_variable.ensures.declared a goes.variable goes.left b goes.declared k goes.said);
}

pub returns-in_default-clause-declared : goal.returns-in_default-clause-declared
returns-in_default-clause-declared c = λ a others b k h.
    let none : first_line c.lines.rest.now ≡ None = sym c.in_default.ensures.value in
    variables_end a c.lines.draft c.lines.rest.now others (c.lines.invariant.left a others b k h) none

pub returns-then-not-is_declaration-clause-declared : goal.returns-then-not-is_declaration-clause-declared
returns-then-not-is_declaration-clause-declared c = λ a others b k h.
    let t : declares c.in-Some.line.now ≡ false = search rules in
    variables_stop a c.lines.draft c.lines.rest.now others c.in-Some.line.now c.in-Some.after.now (c.lines.invariant.left a others b k h) (sym c.in-Some.ensures.value) t

pub returns-in_err-read_variable-clause-want : goal.returns-in_err-read_variable-clause-want
returns-in_err-read_variable-clause-want c = λ a others b k h.
    let t : declares c.in-Some.line.now ≡ true = search rules in
    let goes = variable_goes a c.lines.draft c.lines.rest.now others c.in-Some.line.now c.in-Some.after.now (c.lines.invariant.left a others b k h) (sym c.in-Some.ensures.value) t in
    let p = err_from_is_err_and c.from_residual.result c.from_residual.ensures.1 in
    rw (p.1, p.2) (c.in_err-read_variable.ensures.want a goes.variable goes.left b goes.declared k goes.said)
