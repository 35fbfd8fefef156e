use Rattle.std.proofs.Common.{◌≡◌, fold, drop}
use Rattle.std.specs.Option.{option_or}
use Rattle.bb_scope.specs.Said.{with_decl, first_clash}
use Rattle.bb_scope.proofs.said.Declarations.declare_all.Given as goal

abbrev pub invariant-loop-decl : goal.invariant-loop-decl
invariant-loop-decl l = record {
  said : fold with_decl l.self.said.entries (drop l.decl-index l.decls) ≡ fold with_decl l.initial.self.said.entries l.decls;
  clash : option_or l.self.clash (first_clash l.self.said.entries (drop l.decl-index l.decls)) ≡ option_or l.initial.self.clash (first_clash l.initial.self.said.entries l.decls);
}
