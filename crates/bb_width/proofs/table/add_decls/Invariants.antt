use Rattle.std.proofs.Common.{◌≡◌, drop, fold, map}
use Rattle.bb_scope.specs.Uses.{with_use}
use Rattle.bb_width.proofs.table.add_decls.Given as goal

abbrev pub invariant-loop-decl : goal.invariant-loop-decl
invariant-loop-decl l = fold (with_use l.said.entries) l.used (map (λ d. d.name) (drop l.decl-index l.decls)) ≡ fold (with_use l.said.entries) l.initial.used (map (λ d. d.name) l.decls)
