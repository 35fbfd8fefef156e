use Rattle.std.proofs.Common.{refl, arith}
use Rattle.bb_terms.specs.Rules.{Frame, Registers}
use Rattle.bb_plan.proofs.Stages.{meets_none, meets_more, first_fault}
use Rattle.bb_plan.proofs.first.register_misfit.Goals as goal

pub returns-in-Some : goal.returns-in-Some
returns-in-Some c = λ a. (omega arith, first_fault a c.args.plan.now 0 1 c.in-Some.place Frame refl (omega arith) (meets_none a c.args.plan.now) (c.in-Some.ensures a))

pub returns-in-Some-registers : goal.returns-in-Some-registers
returns-in-Some-registers c = λ a.
    let p = c.args.plan.now in
    let one = meets_more a p 0 1 Frame refl (omega arith) (meets_none a p) (c.in_default.ensures a) in
    (omega arith, first_fault a p 1 2 c.in-Some-registers.place Registers refl (omega arith) one (c.in-Some-registers.ensures a))

pub returns : goal.returns
returns c = λ a.
    let p = c.args.plan.now in
    let one = meets_more a p 0 1 Frame refl (omega arith) (meets_none a p) (c.in_default.ensures a) in
    meets_more a p 1 2 Registers refl (omega arith) one (c.in_default-registers.ensures a)
