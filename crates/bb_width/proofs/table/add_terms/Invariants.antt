use Rattle.std.proofs.Common.{◌≡◌, drop, fold}
use Rattle.std.specs.Prelude.{flat_map}
use Rattle.bb_scope.specs.Names.{steps_names}
use Rattle.bb_scope.specs.Uses.{with_use}
use Rattle.bb_width.proofs.table.add_terms.Given as goal

abbrev pub invariant-loop-term : goal.invariant-loop-term
invariant-loop-term l = fold (with_use l.said.entries) l.used (flat_map steps_names (drop l.term-index l.terms)) ≡ fold (with_use l.said.entries) l.initial.used (flat_map steps_names l.terms)
