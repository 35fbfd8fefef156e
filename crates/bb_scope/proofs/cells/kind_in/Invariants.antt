use Rattle.std.proofs.Common.{◌≡◌, drop, map}
use Rattle.std.specs.Map.{lookup}
use Rattle.std.specs.Str.{bytes_eq}
use Rattle.bb_scope.specs.Kinds.{row_value}
use Rattle.bb_scope.proofs.cells.kind_in.Given as goal

abbrev pub invariant-loop-row : goal.invariant-loop-row
invariant-loop-row l = lookup (bytes_eq l.name) (map row_value (drop l.row-index l.rows)) ≡ lookup (bytes_eq l.name) (map row_value l.rows)
