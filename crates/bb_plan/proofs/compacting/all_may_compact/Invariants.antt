use Rattle.std.proofs.Common.{take}
use Rattle.std.specs.List.{AllByRecursion}
use Rattle.bb_terms.specs.Rules.{MayCompact}
use Rattle.bb_plan.proofs.compacting.all_may_compact.Given as goal

abbrev pub invariant-listed : goal.invariant-listed
invariant-listed l = AllByRecursion (MayCompact l.plan) (take l.number-index l.compact)
