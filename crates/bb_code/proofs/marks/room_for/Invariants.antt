use Rattle.std.proofs.Common.{◌≡◌, ◌+◌, ◌^◌, min, map, take}
use Rattle.bb_code.specs.Marks.{sizes}
use Rattle.bb_code.proofs.marks.room_for.Given as goal

abbrev pub invariant-loop-rows : goal.invariant-loop-rows
invariant-loop-rows l = l.room ≡ min (2 ^ l.degree) (2 + sizes (map (λ rows. rows.items) (take l.rows-index l.spans)))
