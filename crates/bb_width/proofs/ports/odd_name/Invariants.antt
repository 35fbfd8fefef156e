use Rattle.std.proofs.Common.{◌≡◌, ◌++◌, drop, take}
use Rattle.bb_scope.specs.Said.{odd_fault}
use Rattle.bb_width.proofs.ports.odd_name.Given as goal

abbrev pub invariant-loop-name : goal.invariant-loop-name
invariant-loop-name l = record {
  before : l.before.keys ≡ l.initial.before.keys ++ (take l.name-index l.names);
  rest : odd_fault l.said.entries l.before.keys ((drop l.name-index l.names)) ≡ odd_fault l.said.entries l.initial.before.keys (l.names);
}
