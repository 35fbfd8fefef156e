use Rattle.std.proofs.Common.{refl, arith}
use Rattle.bb_terms.specs.Rules.{Room, Columns}
use Rattle.bb_plan.proofs.Stages.{meets_more, first_fault}
use Rattle.bb_plan.proofs.first.number_misfit.Goals as goal

pub returns-in-Some : goal.returns-in-Some
returns-in-Some c = λ a meets. (omega arith, first_fault a c.args.plan.now 8 9 c.in-Some.place Room refl (omega arith) meets (c.in-Some.ensures a))

pub returns-in-Some-columns : goal.returns-in-Some-columns
returns-in-Some-columns c = λ a meets.
    let p = c.args.plan.now in
    let one = meets_more a p 8 9 Room refl (omega arith) meets (c.in_default.ensures a) in
    (omega arith, first_fault a p 9 10 c.in-Some-columns.place Columns refl (omega arith) one (c.in-Some-columns.ensures a))

pub returns : goal.returns
returns c = λ a meets.
    let p = c.args.plan.now in
    let one = meets_more a p 8 9 Room refl (omega arith) meets (c.in_default.ensures a) in
    meets_more a p 9 10 Columns refl (omega arith) one (c.in_default-columns.ensures a)
