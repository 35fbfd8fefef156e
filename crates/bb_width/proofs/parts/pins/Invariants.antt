use Rattle.std.proofs.Common.{◌≡◌, ◌+◌, ◌<◌, ◌^◌, drop}
use Rattle.bb_fault.specs.Firsts.{first_answer}
use Rattle.bb_fault.specs.Limits.{told_count}
use Rattle.bb_scope.specs.Parts.{pin_fault, pins_nets}
use Rattle.std.specs.Prelude.{flat_map}
use Rattle.bb_scope.specs.Names.{pin_names}
use Rattle.bb_scope.specs.Uses.{AreNext}
use Rattle.bb_width.proofs.parts.pins.Given as goal

abbrev pub invariant-loop-one : goal.invariant-loop-one
invariant-loop-one l = record {
  next : AreNext l.scope (flat_map (λ p. pin_names p.1) (drop l.one-index l.pins)) l.rest;
  fault : first_answer (pin_fault l.scope l.line) (drop l.one-index l.pins) ≡ first_answer (pin_fault l.scope l.line) l.pins;
  few : l.nets < 2 ^ 64;
  nets : told_count (l.nets + pins_nets l.scope (drop l.one-index l.pins)) ≡ told_count (pins_nets l.scope l.pins);
}
