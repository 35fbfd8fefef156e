use Rattle.std.proofs.Common.{◌≡◌, ◌<◌, length, get_or, arith, sym, subst, ◌∙◌, true, false, Bool, below_more}
use Rattle.bb_base.specs.Places.{IsFirstWrong}
use Rattle.bb_base.specs.Net.{driven}
use Rattle.bb_terms.specs.Rules.{IsServed, net_numbers}
use Rattle.bb_plan.specs.Tables.{blank, is_served}
use Rattle.bb_plan.proofs.FirstWrong.{number_wrong, each_number}
use Rattle.bb_plan.proofs.Driven.{served_by, served_has}
use Rattle.bb_plan.proofs.serving.first_unserved.Goals as goal

pub returns-then-not-is_served : goal.returns-then-not-is_served
returns-then-not-is_served c = λ p table.
    let a = c.args.netlist.now in
    let n = c.nets.net in
    let within : n < length (driven a) = omega (arith, c.nets-net-end.ensures.count) in
    let mark : Bool = get_or c.args.outputs.now n false in
    let wrong : IsServed a p n → ⊥ = λ h.
    let is = served_has a p c.driver-driver.result n mark (get_or c.args.table.now n blank) c.driver-driver.ensures.drives (c.requires.outputs.each n within) (table.each n within) h in
    let isnt : is_served c.driver-driver.result mark (get_or c.args.table.now n blank) ≡ false = sym c.is_served.ensures ∙ c.if-not-is_served.true in
    absurd (cc (is, isnt)) in
    subst (λ k. IsFirstWrong (net_numbers a) (λ i net. IsServed a p net) k) (sym c.from.ensures) (number_wrong (length (driven a)) (IsServed a p) n within (c.nets.invariant p table) wrong)

pub nets-preserved : goal.nets-preserved
nets-preserved c = λ p table.
    let a = c.args.netlist.now in
    let n = c.nets.net in
    let within : n < length (driven a) = omega (arith, c.nets-net-end.ensures.count) in
    let mark : Bool = get_or c.args.outputs.now n false in
    let is : is_served c.driver-driver.result mark (get_or c.args.table.now n blank) ≡ true = sym c.is_served.ensures ∙ c.if-not-is_served.false in
    let here = served_by a p c.driver-driver.result n mark (get_or c.args.table.now n blank) c.driver-driver.ensures.netlist within c.driver-driver.ensures.drives (c.requires.outputs.each n within) (table.each n within) is in
    below_more (IsServed a p) n (c.nets.invariant p table) here

pub returns : goal.returns
returns c = λ p table. each_number (length (driven c.args.netlist.now)) (IsServed c.args.netlist.now p) (λ m less. c.nets.invariant p table m (omega (arith, less, c.nets-net-end.ensures.count)))
