use Rattle.std.proofs.Common.{◌≡◌, drop, map, zip}
use Rattle.std.specs.Prelude.{Some, flat_map}
use Rattle.bb_scope.specs.Names.{steps_names}
use Rattle.bb_scope.specs.Cells.{by_place}
use Rattle.bb_scope.specs.Kinds.{kind_value, texts}
use Rattle.bb_scope.specs.Uses.{AreNext}
use Rattle.bb_targets.specs.Targets.{out_bits}
use Rattle.bb_targets.proofs.items.mark_places.Given as goal

abbrev pub invariant-places : goal.invariant-places
invariant-places l = record {
  next : AreNext l.scope (flat_map steps_names (drop l.place l.terms)) l.rest;
  kept : l.marks ≡ l.fn.marks;
  same : out_bits l.scope (kind_value l.kind) (zip (texts (drop l.place l.kind.places.now)) (map (λ e. Some e) (drop l.place l.terms))) ≡ out_bits l.scope (kind_value l.kind) (by_place (kind_value l.kind) l.terms);
}
