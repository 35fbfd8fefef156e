use Rattle.std.proofs.Common.{sym, ◌∙◌}
use Rattle.bb_alike.proofs.NetLemmas.{entry_within, entry_site}
use Rattle.bb_alike.proofs.AlikeLemmas.{none_alike}
use Rattle.bb_alike.proofs.drivers.is_alike.Goals as goal

pub is_driven_alike-requires-clause-other : goal.is_driven_alike-requires-clause-other
is_driven_alike-requires-clause-other c =
    entry_within c.args.woven.now c.args.written.now c.args.nets.now c.netlist-written.ensures.named c.requires.nets c.args.net c.in-Some.other c.requires.net (sym c.entry_of.ensures ∙ c.in-Some.is)

pub is_driven_alike-requires-clause-site : goal.is_driven_alike-requires-clause-site
is_driven_alike-requires-clause-site c =
    sym (entry_site c.args.woven.now c.args.written.now c.args.nets.now c.netlist-written.ensures.named c.requires.nets c.args.net c.in-Some.other c.requires.net (sym c.entry_of.ensures ∙ c.in-Some.is))

pub returns-in-None : goal.returns-in-None
returns-in-None c = (
  λ e. absurd (cc e),
  λ all. absurd (none_alike c.args.woven.now c.args.written.now c.args.nets.now c.netlist-woven.ensures.named c.netlist-written.ensures.named c.requires.nets c.args.net c.requires.net (sym c.entry_of.ensures ∙ c.in-None.is) all),
)
