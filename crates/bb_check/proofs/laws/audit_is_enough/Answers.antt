use Rattle.std.proofs.Common.{true}
use Rattle.bb_check.proofs.laws.audit_is_enough.Goals as goal

pub returns : goal.returns
returns c = λ f texts are meets.
    let ready = c.read_netlists_are_ready.ensures.texts texts.input f.original are.input.1 in
    let named = c.read_netlists_are_named.ensures true texts.netlist f.written are.netlist.1 in
    record { files = f; texts_of = are; meets = meets; good = c.passing_is_good.ensures f ready.named ready.own_names named meets }
