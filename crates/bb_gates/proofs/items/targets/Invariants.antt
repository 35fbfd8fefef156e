use Rattle.std.proofs.Common.{◌≡◌, ◌++◌, drop}
use Rattle.std.specs.Prelude.{flat_map, map}
use Rattle.bb_scope.specs.References.{ref_bits}
use Rattle.bb_scope.specs.Uses.{AreNext}
use Rattle.bb_gates.proofs.items.targets.Given as goal

abbrev pub invariant-loop-reference : goal.invariant-loop-reference
invariant-loop-reference l = record {
  next : AreNext l.scope (map (λ r. r.name) (drop l.reference-index l.left)) l.rest;
  made : l.nets.items ++ flat_map (ref_bits l.scope) (drop l.reference-index l.left) ≡ flat_map (ref_bits l.scope) l.left;
}
