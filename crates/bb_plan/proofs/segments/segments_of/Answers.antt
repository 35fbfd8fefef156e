use Rattle.std.proofs.Common.{◌≡◌, ◌+◌, ◌++◌, ◌∷◌, [], List, take, sym, ap, subst}
use Rattle.std.specs.List.{AllZip}
use Rattle.std.proofs.lemmas.Slice.Zip.{all_zipped_more}
use Rattle.bb_terms.specs.Valid.{SegmentValue}
use Rattle.bb_plan.proofs.FirstWrong.{item_at, one_more, none_wrong}
use Rattle.bb_plan.specs.Layout.{LineValue}
use Rattle.bb_plan.specs.Coded.{IsCodedLine, IsIndependentLine, IsFirstDependent}
use Rattle.bb_plan.proofs.PlaceLemmas.{take_next, none_of}
use Rattle.bb_plan.proofs.segments.segments_of.Goals as goal

pub returns-in_default-clause-dependent : goal.returns-in_default-clause-dependent
returns-in_default-clause-dependent c = λ number place e.
    let at = item_at c.args.lines.now c.lines.line-index c.line-item.result c.lines-test.true c.line-item.is in
    let thirteen : number ≡ 13 = cc e in
    let there : c.line.inside.cell ≡ place = cc e in
    let wrong = c.segment_of.ensures.dependent (none_of c.segment_of.result c.in_default.not-Some) in
    let fault : IsFirstDependent c.args.links.now c.args.lines.now c.line.inside.cell = record {
      place = c.lines.line-index;
      first = record { item = c.line-item.result; stands = at; wrong = wrong; before = c.lines.invariant.codes };
      cell_is = ap (λ (line : LineValue). line.cell) c.line.view_is;
    } in
    (thirteen, subst (IsFirstDependent c.args.links.now c.args.lines.now) there fault)

pub lines-preserved : goal.lines-preserved
lines-preserved c =
    let at = item_at c.args.lines.now c.lines.line-index c.line-item.result c.lines-test.true c.line-item.is in
    record {
      segments = subst (λ (xs : List SegmentValue). AllZip (IsCodedLine c.args.links.now) (take (c.lines.line-index + 1) c.args.lines.now) xs) (sym c.in_ok-push.ensures.items)
          (subst (λ (ls : List LineValue). AllZip (IsCodedLine c.args.links.now) ls (c.lines.segments.items ++ c.in-Some.segment ∷ [])) (sym (take_next c.args.lines.now c.lines.line-index c.line-item.result at))
          (all_zipped_more (IsCodedLine c.args.links.now) (take c.lines.line-index c.args.lines.now) c.lines.segments.items c.line-item.result c.in-Some.segment c.lines.invariant.segments c.in-Some.ensures.coded));
      codes = one_more c.args.lines.now (IsIndependentLine c.args.links.now) c.lines.line-index c.line-item.result c.lines.invariant.codes at c.in-Some.ensures.independent;
    }

pub returns-clause-codes : goal.returns-clause-codes
returns-clause-codes c = none_wrong c.args.lines.now (IsIndependentLine c.args.links.now) c.lines.line-index c.lines.invariant.codes c.lines-test.false
