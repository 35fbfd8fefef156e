use Rattle.std.proofs.Common.{◌≡◌, map, take}
use Rattle.bb_lay.specs.Tables.{row_behind}
use Rattle.bb_lay.proofs.fill.kept_rows.Given as goal

abbrev pub invariant-gates : goal.invariant-gates
invariant-gates l = l.rows.items ≡ map (row_behind l.reads) (take l.gate-index l.gates)
