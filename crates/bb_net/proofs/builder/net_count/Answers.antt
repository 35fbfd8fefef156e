use Rattle.std.proofs.Common.{◌≡◌, ◌∙◌, true, ap, rules, ◌-◌}
use Rattle.bb_base.specs.Variables.{is_port}
use Rattle.bb_net.proofs.PlaceLemmas.{port_count, clocked_count}
use Rattle.bb_net.proofs.builder.net_count.Goals as goal

pub returns-in-None : goal.returns-in-None
returns-in-None c =
    let port : is_port c.args.role ≡ true = search rules in
    λ number. c.width_of.ensures.width ∙ port_count number (record { range = c.args.range; role = c.args.role }) c.args.clock port c.in-None.is

pub returns-in-Some : goal.returns-in-Some
returns-in-Some c =
    let port : is_port c.args.role ≡ true = search rules in
    λ number. ap (λ k. k - 1) c.width_of-in-Some.ensures.width
    ∙ clocked_count number c.in-Some.field-0 (record { range = c.args.range; role = c.args.role }) c.args.clock port c.in-Some.is (c.requires.clock c.in-Some.field-0 c.in-Some.is)
