use Rattle.std.proofs.Common.{◌≡◌, ◌++◌, drop, take, map}
use Rattle.bb_scope.specs.Said.{odd_fault}
use Rattle.bb_width.proofs.ports.odd_decl.Given as goal

abbrev pub invariant-loop-decl : goal.invariant-loop-decl
invariant-loop-decl l = record {
  before : l.before.keys ≡ l.initial.before.keys ++ map (λ d. d.name) (take l.decl-index l.decls);
  rest : odd_fault l.said.entries l.before.keys (map (λ d. d.name) (drop l.decl-index l.decls)) ≡ odd_fault l.said.entries l.initial.before.keys (map (λ d. d.name) l.decls);
}
