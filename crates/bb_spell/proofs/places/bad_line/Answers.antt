use Rattle.std.proofs.Common.{◌≡◌, ◌+◌, min, Some, None, true, false, sym, ap, subst, ◌∙◌, arith}
use Rattle.std.specs.Option.{option_map}
use Rattle.bb_spell.specs.Front.{Fails}
use Rattle.bb_spell.specs.TextLines.{first_bad, pieces_of, first_line}
use Rattle.bb_spell.proofs.Pieces.{bad_goes, bad_here, bad_missing, bad_nowhere}
use Rattle.bb_spell.specs.Places.{stage_after, may_end}
use Rattle.bb_spell.specs.declared.places.Stage.TheVariants.{Head}
use Rattle.bb_spell.proofs.Told.{told, told_right, number_told, ok_same}
use Rattle.bb_spell.proofs.places.bad_line.Goals as goal

pub lines-preserved : goal.lines-preserved
lines-preserved c = record {
  same = bad_goes stage_after may_end c.lines.stage c.in-Ok.stage c.lines.lines c.lines.rest.now c.in-Some.line.now c.in-Some.after.now _ (sym c.in-Some.ensures.value) c.in-Ok.ensures.value c.lines.invariant.same;
  few = omega (arith, c.in-Some.ensures.shorter, c.lines.invariant.few);
  flops = omega (arith, c.in-Ok.ensures.more, c.lines.invariant.flops);
}

pub returns-in-Err-NotCanonical-clause-value : goal.returns-in-Err-NotCanonical-clause-value
returns-in-Err-NotCanonical-clause-value c =
    let none : stage_after c.lines.stage c.in-Some.line.now ≡ None = subst (λ k. Fails k (stage_after c.lines.stage c.in-Some.line.now)) c.in-Err-NotCanonical.field-0-is c.in-Err-NotCanonical.ensures.value in
    let found : first_bad stage_after may_end (Some Head) 0 (pieces_of c.args.text.now) ≡ Some (c.lines.lines + 1) = bad_here stage_after may_end c.lines.stage c.lines.lines c.lines.rest.now c.in-Some.line.now c.in-Some.after.now _ (sym c.in-Some.ensures.value) none c.lines.invariant.same in
    number_told c.args.text.now c.lines.lines c.number_behind.result c.number_behind.ensures found

pub returns-in-Err-NotCanonical-clause-line : goal.returns-in-Err-NotCanonical-clause-line
returns-in-Err-NotCanonical-clause-line c = λ n e.
    let none : stage_after c.lines.stage c.in-Some.line.now ≡ None = subst (λ k. Fails k (stage_after c.lines.stage c.in-Some.line.now)) c.in-Err-NotCanonical.field-0-is c.in-Err-NotCanonical.ensures.value in
    let found : first_bad stage_after may_end (Some Head) 0 (pieces_of c.args.text.now) ≡ Some (c.lines.lines + 1) = bad_here stage_after may_end c.lines.stage c.lines.lines c.lines.rest.now c.in-Some.line.now c.in-Some.after.now _ (sym c.in-Some.ensures.value) none c.lines.invariant.same in
    told c.args.text.now n (sym (number_told c.args.text.now c.lines.lines c.number_behind.result c.number_behind.ensures found) ∙ ok_same (Some c.number_behind.result) (Some n) e)

pub returns-then-may_end-clause-right : goal.returns-then-may_end-clause-right
returns-then-may_end-clause-right c = λ _.
    let none : first_line c.lines.rest.now ≡ None = sym c.in_default.ensures.value in
    let ended : may_end c.lines.stage c.lines.rest.now ≡ true = sym c.may_end.ensures ∙ c.if-may_end.true in
    told_right c.args.text.now (ap (option_map (min 4294967295)) (bad_nowhere stage_after may_end c.lines.stage c.lines.lines c.lines.rest.now _ none ended c.lines.invariant.same))

pub returns-else-may_end-clause-value : goal.returns-else-may_end-clause-value
returns-else-may_end-clause-value c =
    let none : first_line c.lines.rest.now ≡ None = sym c.in_default.ensures.value in
    let open_end : may_end c.lines.stage c.lines.rest.now ≡ false = sym c.may_end.ensures ∙ c.if-may_end.false in
    let found : first_bad stage_after may_end (Some Head) 0 (pieces_of c.args.text.now) ≡ Some (c.lines.lines + 1) = bad_missing stage_after may_end c.lines.stage c.lines.lines c.lines.rest.now _ none open_end c.lines.invariant.same in
    number_told c.args.text.now c.lines.lines c.number_behind-else-may_end.result c.number_behind-else-may_end.ensures found

pub returns-else-may_end-clause-line : goal.returns-else-may_end-clause-line
returns-else-may_end-clause-line c = λ n e.
    let none : first_line c.lines.rest.now ≡ None = sym c.in_default.ensures.value in
    let open_end : may_end c.lines.stage c.lines.rest.now ≡ false = sym c.may_end.ensures ∙ c.if-may_end.false in
    let found : first_bad stage_after may_end (Some Head) 0 (pieces_of c.args.text.now) ≡ Some (c.lines.lines + 1) = bad_missing stage_after may_end c.lines.stage c.lines.lines c.lines.rest.now _ none open_end c.lines.invariant.same in
    told c.args.text.now n (sym (number_told c.args.text.now c.lines.lines c.number_behind-else-may_end.result c.number_behind-else-may_end.ensures found) ∙ ok_same (Some c.number_behind-else-may_end.result) (Some n) e)
