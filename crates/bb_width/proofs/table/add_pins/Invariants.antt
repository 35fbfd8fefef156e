use Rattle.std.proofs.Common.{◌≡◌, drop, fold}
use Rattle.std.specs.Prelude.{flat_map}
use Rattle.bb_scope.specs.Names.{pin_names}
use Rattle.bb_scope.specs.Uses.{with_use}
use Rattle.bb_width.proofs.table.add_pins.Given as goal

abbrev pub invariant-loop-expr : goal.invariant-loop-expr
invariant-loop-expr l = fold (with_use l.said.entries) l.used (flat_map (λ p. pin_names p.1) (drop l.expr-index l.pins)) ≡ fold (with_use l.said.entries) l.initial.used (flat_map (λ p. pin_names p.1) l.pins)
