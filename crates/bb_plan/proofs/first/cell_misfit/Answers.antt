use Rattle.std.proofs.Common.{List, refl, arith, subst}
use Rattle.bb_base.specs.Places.{EachAt}
use Rattle.bb_terms.specs.declared.plan.Cell.{Cell}
use Rattle.bb_terms.specs.Rules.{Kinds, Apart, Served, Fits}
use Rattle.bb_plan.specs.Answers.{IsVerdict}
use Rattle.bb_plan.proofs.Stages.{meets_more, first_fault, some_plan}
use Rattle.bb_plan.proofs.first.cell_misfit.Goals as goal

pub returns-in-Some : goal.returns-in-Some
returns-in-Some c = λ p same meets.
    (omega arith, first_fault c.args.netlist.now p 2 3 c.in-Some.place Kinds refl (omega arith) meets (subst (IsVerdict c.args.netlist.now p Kinds) c.in-Some.is (c.in_ok-place.ensures p same)))

pub apart-requires : goal.apart-requires
apart-requires c =
    let a = c.args.netlist.now in
    let some = some_plan c.args.cells.now in
    subst (λ (cells : List Cell). EachAt cells (λ i c'. Fits a c')) some.1 (subst (IsVerdict a some.0 Kinds) c.in_default.is (c.in_ok-place.ensures some.0 some.1))

pub returns-in-Some-2 : goal.returns-in-Some-2
returns-in-Some-2 c = λ p same meets.
    let a = c.args.netlist.now in
    let one = meets_more a p 2 3 Kinds refl (omega arith) meets (subst (IsVerdict a p Kinds) c.in_default.is (c.in_ok-place.ensures p same)) in
    (omega arith, first_fault a p 3 4 c.in-Some-2.place Apart refl (omega arith) one (subst (IsVerdict a p Apart) c.in-Some-2.is (c.in_ok-place-2.ensures p same)))

pub returns-in-Some-3 : goal.returns-in-Some-3
returns-in-Some-3 c = λ p same meets.
    let a = c.args.netlist.now in
    let one = meets_more a p 2 3 Kinds refl (omega arith) meets (subst (IsVerdict a p Kinds) c.in_default.is (c.in_ok-place.ensures p same)) in
    let two = meets_more a p 3 4 Apart refl (omega arith) one (subst (IsVerdict a p Apart) c.in_default-2.is (c.in_ok-place-2.ensures p same)) in
    (omega arith, first_fault a p 4 5 c.in-Some-3.place Served refl (omega arith) two (subst (IsVerdict a p Served) c.in-Some-3.is (c.in_ok-place-3.ensures p same)))

pub returns : goal.returns
returns c = λ p same meets.
    let a = c.args.netlist.now in
    let one = meets_more a p 2 3 Kinds refl (omega arith) meets (subst (IsVerdict a p Kinds) c.in_default.is (c.in_ok-place.ensures p same)) in
    let two = meets_more a p 3 4 Apart refl (omega arith) one (subst (IsVerdict a p Apart) c.in_default-2.is (c.in_ok-place-2.ensures p same)) in
    meets_more a p 4 5 Served refl (omega arith) two (subst (IsVerdict a p Served) c.in_default-3.is (c.in_ok-place-3.ensures p same))
