use Rattle.std.proofs.Common.{◌≡◌, ◌++◌, drop}
use Rattle.std.specs.Prelude.{flat_map}
use Rattle.bb_scope.specs.Making.{driven_bits}
use Rattle.bb_scope.specs.Names.{steps_names}
use Rattle.bb_scope.specs.Uses.{AreNext}
use Rattle.bb_gates.proofs.prims.add_all_driven_bits.Given as goal

abbrev pub invariant-loop-term : goal.invariant-loop-term
invariant-loop-term l = record {
  next : AreNext l.scope (flat_map steps_names (drop l.term-index l.terms)) l.rest;
  made : l.nets.items ++ flat_map (driven_bits l.scope) (drop l.term-index l.terms) ≡ l.fn.nets.items ++ flat_map (driven_bits l.scope) l.terms;
}
