use Rattle.std.proofs.Common.{◌≡◌, ◌++◌, drop, map, zip}
use Rattle.std.specs.Prelude.{Some}
use Rattle.bb_scope.specs.Cells.{by_place}
use Rattle.bb_scope.specs.Kinds.{kind_value, texts}
use Rattle.bb_gates.proofs.cell_gates.placed_pins.Given as goal

abbrev pub invariant-loop-place : goal.invariant-loop-place
invariant-loop-place l =
    l.list.items ++ zip (texts (drop l.place l.kind.places.now)) (map (λ e. Some e) (drop l.place l.terms)) ≡ by_place (kind_value l.kind) l.terms
