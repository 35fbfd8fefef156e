use Rattle.std.proofs.Common.{◌≡◌, ◌++◌, map, take}
use Rattle.bb_plan.specs.Chain.{register_of_cell}
use Rattle.bb_plan.proofs.conflicts.Feeders.note.Given as goal

abbrev pub invariant-sources : goal.invariant-sources
invariant-sources l = l.self-inside.registers.items ≡ l.initial.self-inside.registers.items ++ map (register_of_cell l.links) (take l.source-index l.sources)
