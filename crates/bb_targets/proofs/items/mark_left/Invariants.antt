use Rattle.std.proofs.Common.{◌≡◌, drop, fold}
use Rattle.std.specs.Prelude.{flat_map, map}
use Rattle.bb_scope.specs.References.{ref_bits}
use Rattle.bb_scope.specs.Uses.{AreNext}
use Rattle.bb_targets.specs.Marks.{with_mark}
use Rattle.bb_targets.proofs.items.mark_left.Given as goal

abbrev pub invariant-references : goal.invariant-references
invariant-references l = record {
  next : AreNext l.scope (map (λ r. r.name) (drop l.reference-index l.left)) l.rest;
  same : fold with_mark l.marks (flat_map (ref_bits l.scope) (drop l.reference-index l.left)) ≡ fold with_mark l.fn.marks (flat_map (ref_bits l.scope) l.left);
}
