use Rattle.std.proofs.Common.{◌≡◌, take}
use Rattle.bb_code.specs.Columns.{given_columns}
use Rattle.bb_code.proofs.choice.given_columns.Given as goal

abbrev pub invariant-loop-source : goal.invariant-loop-source
invariant-loop-source l = l.rows.items ≡ given_columns l.columns (take l.source-index l.segment)
