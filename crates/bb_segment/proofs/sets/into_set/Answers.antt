use Rattle.std.specs.Prelude.{nat_eq}
use Rattle.std.proofs.lemmas.List.Filters.{dedup_is}
use Rattle.bb_segment.proofs.TableLemmas.{set_of}
use Rattle.bb_segment.proofs.sets.into_set.Goals as goal

pub returns : goal.returns
returns c = set_of c.args.numbers.items c.sort_unstable.new.self.items c.dedup.new.self.items c.sort_unstable.ensures.permutation c.sort_unstable.ensures.sorted
    (dedup_is nat_eq c.sort_unstable.new.self.items c.dedup.new.self.items c.dedup.ensures.filtered)
