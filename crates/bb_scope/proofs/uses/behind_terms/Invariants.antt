use Rattle.std.proofs.Common.{◌≡◌, drop, length}
use Rattle.std.specs.Prelude.{flat_map}
use Rattle.bb_scope.specs.Names.{steps_names}
use Rattle.bb_scope.proofs.uses.behind_terms.Given as goal

abbrev pub invariant-loop-term : goal.invariant-loop-term
invariant-loop-term l = drop (length (flat_map steps_names (drop l.term-index l.terms))) l.rest ≡ drop (length (flat_map steps_names l.terms)) l.uses
