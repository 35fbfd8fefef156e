use Rattle.std.proofs.Common.{◌≡◌, ◌<◌, length, get_or, arith, ap, sym, ◌∙◌, false, Bool, nat_eq}
use Rattle.std.specs.List.{list_any}
use Rattle.bb_base.specs.Net.{driven}
use Rattle.bb_plan.proofs.Driven.{stand_is, stands_within}
use Rattle.bb_plan.proofs.standing.fits.Goals as goal

pub returns-then-net-nets : goal.returns-then-net-nets
returns-then-net-nets c =
    let net_is : c.net.inside.0 ≡ c.args.net = c.net.view_is in
    (λ f. absurd (cc f), λ h. absurd (omega (arith, stands_within c.args.netlist.now c.args.kind c.args.net c.nets.ensures.netlist h, net_is, c.nets.ensures.count)))

pub returns : goal.returns
returns c =
    let net_is : c.net-2.inside.0 ≡ c.args.net = c.net-2.view_is in
    let first_is : c.net.inside.0 ≡ c.args.net = c.net.view_is in
    let within : c.args.net < length (driven c.args.netlist.now) = omega (arith, first_is, c.nets.ensures.count) in
    let mark : Bool = get_or c.args.outputs.now c.net-2.inside.0 false in
    let out : mark ≡ list_any (nat_eq c.args.net) c.args.netlist.now.outputs = ap (λ k. get_or c.args.outputs.now k false) net_is ∙ c.requires.each c.args.net within in
    let both = stand_is c.args.netlist.now c.args.kind c.driver.result c.args.net mark c.nets.ensures.netlist within c.driver.ensures.drives out in
    (λ t. both.0 (sym c.may_stand.ensures ∙ t), λ h. c.may_stand.ensures ∙ both.1 h)
