use Rattle.std.proofs.Common.{Some, ap, ◌∙◌}
use Rattle.std.specs.Option.{is_some}
use Rattle.bb_alike.proofs.NetLemmas.{net_found, none_found}
use Rattle.bb_alike.proofs.nets.net_at.Goals as goal

pub returns-in-Some : goal.returns-in-Some
returns-in-Some c =
    let a = c.args.of.now in
    let b = c.args.within.now in
    net_found a b c.name-bit.ensures.named c.netlist-within.ensures.named c.args.net c.requires.net c.name-bit.result c.name-bit.ensures.value c.args.numbers.now c.in-Some.variable c.find.result c.requires.numbers
    (c.number_at.ensures ∙ ap Some c.in-Some.is) c.find.ensures.found (λ e. c.find.ensures.none.0 (ap is_some e))

pub returns-in-None : goal.returns-in-None
returns-in-None c =
    none_found c.args.of.now c.args.within.now c.name-bit.ensures.named c.netlist-within.ensures.named c.args.net c.requires.net c.name-bit.result c.name-bit.ensures.value c.args.numbers.now c.requires.numbers
    (c.number_at.ensures ∙ ap Some c.in-None.is)
