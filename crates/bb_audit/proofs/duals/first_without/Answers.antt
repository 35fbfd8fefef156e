use Rattle.std.proofs.Common.{arith, ◌≡◌, ◌<◌, length, sym, ap, ◌∙◌}
use Rattle.bb_plan.proofs.FirstWrong.{one_more, none_wrong}
use Rattle.bb_forms.specs.CertificateText.{CertificateSegmentValue}
use Rattle.bb_alike.proofs.ListLemmas.{item_at, not_both}
use Rattle.bb_audit.specs.Certified.{HaveDuals}
use Rattle.bb_audit.proofs.duals.first_without.Goals as goal

pub returns-then-not-has_duals-clause-first : goal.returns-then-not-has_duals-clause-first
returns-then-not-has_duals-clause-first c = λ cell e.
    let low : c.lines.line-index < length c.args.lines.now = omega arith in
    let at = item_at c.args.lines.now c.lines.line-index c.line-item.result low c.line-item.is in
    let there : c.line.inside.cell ≡ cell = cc e in
    record {
      place = c.lines.line-index;
      first = record { item = c.line-item.result; stands = at; wrong = λ h. not_both c.has_duals.result (c.has_duals.ensures.1 h) c.if-not-has_duals.true; before = c.lines.invariant };
      cell_is = sym there ∙ ap (λ (line : CertificateSegmentValue). line.cell) c.line.view_is;
    }

pub lines-preserved : goal.lines-preserved
lines-preserved c =
    let low : c.lines.line-index < length c.args.lines.now = omega arith in
    let at = item_at c.args.lines.now c.lines.line-index c.line-item.result low c.line-item.is in
    one_more c.args.lines.now (λ i line. HaveDuals c.args.plan.now line.pairs) c.lines.line-index c.line-item.result c.lines.invariant at (c.has_duals.ensures.0 c.if-not-has_duals.false)

pub returns-clause-none : goal.returns-clause-none
returns-clause-none c = λ e. none_wrong c.args.lines.now (λ i line. HaveDuals c.args.plan.now line.pairs) c.lines.line-index c.lines.invariant (omega arith)
