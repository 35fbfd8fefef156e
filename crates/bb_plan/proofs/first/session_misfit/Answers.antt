use Rattle.std.proofs.Common.{refl, arith, subst}
use Rattle.bb_terms.specs.Rules.{Pure, Sessions, Compacted}
use Rattle.bb_plan.specs.Answers.{IsVerdict}
use Rattle.bb_plan.proofs.Stages.{meets_more, first_fault}
use Rattle.bb_plan.proofs.first.session_misfit.Goals as goal

pub returns-in-Some : goal.returns-in-Some
returns-in-Some c = λ a meets. (omega arith, first_fault a c.args.plan.now 5 6 c.in-Some.place Pure refl (omega arith) meets (c.in-Some.ensures a))

pub returns-in-Some-sessions : goal.returns-in-Some-sessions
returns-in-Some-sessions c = λ a meets.
    let p = c.args.plan.now in
    let one = meets_more a p 5 6 Pure refl (omega arith) meets (c.in_default.ensures a) in
    (omega arith, first_fault a p 6 7 c.in-Some-sessions.place Sessions refl (omega arith) one (c.in-Some-sessions.ensures a))

pub returns-in-Some-2 : goal.returns-in-Some-2
returns-in-Some-2 c = λ a meets.
    let p = c.args.plan.now in
    let one = meets_more a p 5 6 Pure refl (omega arith) meets (c.in_default.ensures a) in
    let two = meets_more a p 6 7 Sessions refl (omega arith) one (c.in_default-sessions.ensures a) in
    (omega arith, first_fault a p 7 8 c.in-Some-2.place Compacted refl (omega arith) two (subst (IsVerdict a p Compacted) c.in-Some-2.is (c.in_ok-place.ensures a)))

pub returns : goal.returns
returns c = λ a meets.
    let p = c.args.plan.now in
    let one = meets_more a p 5 6 Pure refl (omega arith) meets (c.in_default.ensures a) in
    let two = meets_more a p 6 7 Sessions refl (omega arith) one (c.in_default-sessions.ensures a) in
    meets_more a p 7 8 Compacted refl (omega arith) two (subst (IsVerdict a p Compacted) c.in_default-2.is (c.in_ok-place.ensures a))
