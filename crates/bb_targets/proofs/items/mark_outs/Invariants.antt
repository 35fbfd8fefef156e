use Rattle.std.proofs.Common.{◌≡◌, drop, fold}
use Rattle.std.specs.Prelude.{flat_map}
use Rattle.bb_scope.specs.Names.{steps_names}
use Rattle.bb_scope.specs.Uses.{AreNext}
use Rattle.bb_scope.specs.Making.{driven_bits}
use Rattle.bb_targets.specs.Marks.{with_mark}
use Rattle.bb_targets.proofs.items.mark_outs.Given as goal

abbrev pub invariant-terms : goal.invariant-terms
invariant-terms l = record {
  next : AreNext l.scope (flat_map steps_names (drop l.term-index l.outs)) l.rest;
  same : fold with_mark l.marks (flat_map (driven_bits l.scope) (drop l.term-index l.outs)) ≡ fold with_mark l.fn.marks (flat_map (driven_bits l.scope) l.outs);
}
