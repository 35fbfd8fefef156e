use Rattle.std.proofs.Common.{◌≡◌, ◌+◌, ◌<◌, ◌^◌, drop}
use Rattle.bb_fault.specs.Firsts.{first_answer}
use Rattle.bb_fault.specs.Limits.{told_count}
use Rattle.bb_scope.specs.Sizes.{expr_fault}
use Rattle.bb_scope.specs.Parts.{terms_nets}
use Rattle.std.specs.Prelude.{flat_map}
use Rattle.bb_scope.specs.Names.{steps_names}
use Rattle.bb_scope.specs.Uses.{AreNext}
use Rattle.bb_width.proofs.parts.terms.Given as goal

abbrev pub invariant-loop-term : goal.invariant-loop-term
invariant-loop-term l = record {
  next : AreNext l.scope (flat_map steps_names (drop l.term-index l.terms)) l.rest;
  fault : first_answer (expr_fault l.scope l.line 1) (drop l.term-index l.terms) ≡ first_answer (expr_fault l.scope l.line 1) l.terms;
  few : l.nets < 2 ^ 64;
  nets : told_count (l.nets + terms_nets l.scope (drop l.term-index l.terms)) ≡ told_count (terms_nets l.scope l.terms);
}
