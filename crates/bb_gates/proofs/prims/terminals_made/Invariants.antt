use Rattle.std.proofs.Common.{◌≡◌, ◌++◌, drop}
use Rattle.bb_scope.specs.Making.{terminals_made}
use Rattle.std.specs.Prelude.{flat_map}
use Rattle.bb_scope.specs.Names.{steps_names}
use Rattle.bb_scope.specs.Uses.{AreNext}
use Rattle.bb_gates.proofs.prims.terminals_made.Given as goal

abbrev pub invariant-loop-term : goal.invariant-loop-term
invariant-loop-term l = record {
  next : AreNext l.scope (flat_map steps_names (drop l.term-index l.terms)) l.rest;
  nets : l.nets.items ++ (terminals_made l.scope (drop l.term-index l.terms) l.work).0 ≡ (terminals_made l.scope l.terms l.fn.work).0;
  work : (terminals_made l.scope (drop l.term-index l.terms) l.work).1 ≡ (terminals_made l.scope l.terms l.fn.work).1;
}
