use Rattle.std.proofs.Common.{map, take}
use Rattle.bb_code.specs.Marks.{IsInside}
use Rattle.bb_code.proofs.Marking.{HasMore}
use Rattle.bb_code.proofs.marks.mark_spans.Given as goal

abbrev pub invariant-loop-rows : goal.invariant-loop-rows
invariant-loop-rows l = HasMore l.initial.marks l.marks (IsInside (map (λ rows. rows.items) (take l.rows-index l.spans)))
