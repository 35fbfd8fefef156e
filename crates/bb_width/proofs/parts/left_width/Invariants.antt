use Rattle.std.proofs.Common.{◌≡◌, ◌+◌, ◌*◌, ◌≤◌, drop}
use Rattle.bb_fault.specs.Firsts.{first_answer}
use Rattle.bb_scope.specs.References.{ref_fault, left_width}
use Rattle.std.specs.Prelude.{map}
use Rattle.bb_scope.specs.Uses.{AreNext}
use Rattle.bb_width.proofs.parts.left_width.Given as goal

abbrev pub invariant-loop-reference : goal.invariant-loop-reference
invariant-loop-reference l = record {
  next : AreNext l.scope (map (λ r. r.name) (drop l.reference-index l.left)) l.rest;
  fault : first_answer (ref_fault l.scope l.line) (drop l.reference-index l.left) ≡ first_answer (ref_fault l.scope l.line) l.left;
  few : l.width ≤ 65536 * l.reference-index;
  width : l.width + left_width l.scope (drop l.reference-index l.left) ≡ left_width l.scope l.left;
}
