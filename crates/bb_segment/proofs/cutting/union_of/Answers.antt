use Rattle.bb_segment.proofs.TableLemmas.{union_is}
use Rattle.bb_segment.proofs.cutting.union_of.Goals as goal

pub returns : goal.returns
returns c = union_is c.args.table.now c.args.nets.now c.in_ok-numbers.numbers.items c.into_set.result.items c.in_ok-numbers.ensures c.into_set.ensures
