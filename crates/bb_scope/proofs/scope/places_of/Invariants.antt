use Rattle.std.proofs.Common.{◌≡◌, ◌+◌, ◌++◌, drop}
use Rattle.bb_base.specs.Variables.{bit_count}
use Rattle.bb_scope.specs.Numbers.{places_from}
use Rattle.bb_scope.proofs.scope.places_of.Given as goal

abbrev pub invariant-loop-index : goal.invariant-loop-index
invariant-loop-index l = record {
  places : l.places.items ++ places_from l.first (drop l.index l.table.entries) ≡ places_from 0 l.table.entries;
  count : l.first + bit_count (drop l.index l.table.entries) ≡ bit_count l.table.entries;
}
