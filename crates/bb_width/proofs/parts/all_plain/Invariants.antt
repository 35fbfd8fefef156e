use Rattle.std.proofs.Common.{◌≡◌, drop}
use Rattle.std.specs.List.{list_all}
use Rattle.bb_scope.specs.Cells.{is_plain}
use Rattle.bb_width.proofs.parts.all_plain.Given as goal

abbrev pub invariant-loop-term : goal.invariant-loop-term
invariant-loop-term l = list_all is_plain (drop l.term-index l.terms) ≡ list_all is_plain l.terms
