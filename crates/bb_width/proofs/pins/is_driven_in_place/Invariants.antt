use Rattle.std.proofs.Common.{◌≡◌, drop, map, zip}
use Rattle.std.specs.Prelude.{Some}
use Rattle.std.specs.List.{list_all}
use Rattle.bb_scope.specs.Cells.{is_right_out, by_place}
use Rattle.bb_scope.specs.Kinds.{kind_value, texts}
use Rattle.bb_width.proofs.pins.is_driven_in_place.Given as goal

abbrev pub invariant-loop-index : goal.invariant-loop-index
invariant-loop-index l =
    list_all (is_right_out (kind_value l.kind)) (zip (texts (drop l.index l.kind.places.now)) (map (λ e. Some e) (drop l.index l.terms)))
    ≡ list_all (is_right_out (kind_value l.kind)) (by_place (kind_value l.kind) l.terms)
