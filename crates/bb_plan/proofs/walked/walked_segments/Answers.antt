use Rattle.std.proofs.Common.{◌≡◌, ◌<◌, ◌≤◌, List, length, All, refl, sym, subst, ◌∙◌, Some}
use Rattle.std.specs.List.{AllZip}
use Rattle.bb_terms.specs.Plan.{observers}
use Rattle.bb_terms.specs.Rules.{Widths, Conflicts, Codes}
use Rattle.bb_plan.specs.Answers.{IsVerdict}
use Rattle.bb_plan.proofs.Stages.{meets_more}
use Rattle.bb_plan.specs.Layout.{LineValue, IsObservedLine}
use Rattle.bb_plan.proofs.CodingLemmas.{segments_are, codes_hold, first_dependent}
use Rattle.bb_plan.proofs.ConflictLemmas.{sources_few, sources_low}
use Rattle.bb_plan.proofs.FaultLemmas.{too_wide, conflicting, uncoded, same_fault}
use Rattle.bb_terms.specs.declared.fault.PlanFault.TheVariants.{Rule}
use Rattle.bb_plan.proofs.walked.walked_segments.Goals as goal

pub returns-in-Err-clause-fault : goal.returns-in-Err-clause-fault
returns-in-Err-clause-fault c = λ number place e. let h = c.in-Err.ensures.wide number place (same_fault c.in-Err.fault (Rule number place) e) in too_wide c.args.netlist.now c.args.plan.now c.requires.before number place h.0 h.1

pub returns-in-Some-clause-fault : goal.returns-in-Some-clause-fault
returns-in-Some-clause-fault c = λ number place e.
    let meets = meets_more c.args.netlist.now c.args.plan.now 10 11 Widths refl refl c.requires.before c.in-Ok.ensures.narrow in
    let fails = subst (IsVerdict c.args.netlist.now c.args.plan.now Conflicts) c.in-Some.is c.in_ok-place.ensures in
    let twelve : number ≡ 12 = cc e in
    let there : c.in-Some.place ≡ place = cc e in
    conflicting c.args.netlist.now c.args.plan.now c.requires.before number place twelve meets (subst (λ k. IsVerdict c.args.netlist.now c.args.plan.now Conflicts (Some k)) there fails)

pub segments_of-requires-clause-few : goal.segments_of-requires-clause-few
segments_of-requires-clause-few c = subst (λ (ls : List LineValue). All (λ line. length line.sources ≤ 16) ls) (sym c.deref-3.ensures.value)
    (sources_few c.args.netlist.now c.args.plan.now c.in_ok-layout.layout.links.items c.in-Ok.lines.items c.in_ok-layout.ensures.chain c.in-Ok.ensures.lines)

pub segments_of-requires-clause-within : goal.segments_of-requires-clause-within
segments_of-requires-clause-within c = subst (λ (ls : List LineValue). All (λ line. All (λ i. i < length c.deref-2.result.now) line.sources) ls) (sym c.deref-3.ensures.value)
    (sources_low c.args.netlist.now c.args.plan.now c.deref-2.result.now c.in-Ok.lines.items (c.deref-2.ensures.value ∙ c.in_ok-layout.ensures.chain) c.in-Ok.ensures.lines)

pub returns-in-Ok-segments_of-clause-segments : goal.returns-in-Ok-segments_of-clause-segments
returns-in-Ok-segments_of-clause-segments c =
    segments_are c.args.netlist.now c.args.plan.now c.deref-2.result.now c.deref-3.result.now (c.deref-2.ensures.value ∙ c.in_ok-layout.ensures.chain)
    (subst (AllZip (IsObservedLine c.args.netlist.now c.args.plan.now) (observers c.args.plan.now)) (sym c.deref-3.ensures.value) c.in-Ok.ensures.lines) c.in-Ok-segments_of.segments.items c.in-Ok-segments_of.ensures.segments

pub returns-in-Ok-segments_of-clause-meets : goal.returns-in-Ok-segments_of-clause-meets
returns-in-Ok-segments_of-clause-meets c =
    let eleven = meets_more c.args.netlist.now c.args.plan.now 10 11 Widths refl refl c.requires.before c.in-Ok.ensures.narrow in
    let twelve = meets_more c.args.netlist.now c.args.plan.now 11 12 Conflicts refl refl eleven (subst (IsVerdict c.args.netlist.now c.args.plan.now Conflicts) c.in_default.is c.in_ok-place.ensures) in
    let codes = codes_hold c.args.netlist.now c.args.plan.now c.deref-2.result.now c.deref-3.result.now (c.deref-2.ensures.value ∙ c.in_ok-layout.ensures.chain)
    (subst (AllZip (IsObservedLine c.args.netlist.now c.args.plan.now) (observers c.args.plan.now)) (sym c.deref-3.ensures.value) c.in-Ok.ensures.lines) c.in-Ok-segments_of.ensures.codes in
    meets_more c.args.netlist.now c.args.plan.now 12 13 Codes refl refl twelve codes

pub returns-clause-fault : goal.returns-clause-fault
returns-clause-fault c = λ number place e.
    let eleven = meets_more c.args.netlist.now c.args.plan.now 10 11 Widths refl refl c.requires.before c.in-Ok.ensures.narrow in
    let twelve = meets_more c.args.netlist.now c.args.plan.now 11 12 Conflicts refl refl eleven (subst (IsVerdict c.args.netlist.now c.args.plan.now Conflicts) c.in_default.is c.in_ok-place.ensures) in
    let h = c.in-Err-segments_of.ensures.dependent number place e in
    uncoded c.args.netlist.now c.args.plan.now c.requires.before number place h.0 twelve
    (first_dependent c.args.netlist.now c.args.plan.now c.deref-2.result.now c.deref-3.result.now (c.deref-2.ensures.value ∙ c.in_ok-layout.ensures.chain)
    (subst (AllZip (IsObservedLine c.args.netlist.now c.args.plan.now) (observers c.args.plan.now)) (sym c.deref-3.ensures.value) c.in-Ok.ensures.lines) c.in_ok-layout.ensures.netlist place h.1)
