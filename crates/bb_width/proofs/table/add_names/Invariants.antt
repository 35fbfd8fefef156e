use Rattle.std.proofs.Common.{◌≡◌, drop, fold}
use Rattle.bb_scope.specs.Uses.{with_use}
use Rattle.bb_width.proofs.table.add_names.Given as goal

abbrev pub invariant-loop-name : goal.invariant-loop-name
invariant-loop-name l = fold (with_use l.said.entries) l.used ((drop l.name-index l.names)) ≡ fold (with_use l.said.entries) l.initial.used (l.names)
