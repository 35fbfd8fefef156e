use Rattle.std.proofs.Common.{◌≡◌, drop, length}
use Rattle.std.specs.Prelude.{flat_map}
use Rattle.bb_scope.specs.Names.{pin_names}
use Rattle.bb_scope.proofs.uses.behind_pins.Given as goal

abbrev pub invariant-loop-pin : goal.invariant-loop-pin
invariant-loop-pin l = drop (length (flat_map (λ p. pin_names p.1) (drop l.pin-index l.pins))) l.rest ≡ drop (length (flat_map (λ p. pin_names p.1) l.pins)) l.uses
