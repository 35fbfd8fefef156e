use Rattle.std.proofs.Common.{sym, ◌∙◌}
use Rattle.bb_spell.proofs.MoreNames.{names_shorter, names_kept, names_last, names_fail}
use Rattle.bb_spell.proofs.places.after_names.Goals as goal

pub returns : goal.returns
returns c = names_last c.names.rest.now _ (sym c.begins_with.ensures ∙ c.names-test.false) c.names.invariant

pub returns-in-Err : goal.returns-in-Err
returns-in-Err c = names_fail c.in-Err.fault c.names.rest.now c.split_at.result.1.now _ (sym c.begins_with.ensures ∙ c.names-test.true) c.split_at.ensures.back c.in-Err.ensures c.names.invariant

pub names-smaller : goal.names-smaller
names-smaller c = names_shorter c.names.rest.now c.split_at.result.1.now c.in-Ok._name c.in-Ok.tail.now (sym c.begins_with.ensures ∙ c.names-test.true) c.split_at.ensures.back c.in-Ok.ensures

pub names-preserved : goal.names-preserved
names-preserved c = names_kept c.names.rest.now c.split_at.result.1.now c.in-Ok._name c.in-Ok.tail.now _ (sym c.begins_with.ensures ∙ c.names-test.true) c.split_at.ensures.back c.in-Ok.ensures c.names.invariant
