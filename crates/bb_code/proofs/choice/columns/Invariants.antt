use Rattle.std.proofs.Common.{map}
use Rattle.bb_code.specs.Columns.{AreAllColumns}
use Rattle.bb_code.proofs.choice.columns.Given as goal

abbrev pub invariant-loop-source : goal.invariant-loop-source
invariant-loop-source l = AreAllColumns l.degree (map (λ segment. segment.items) l.segments) l.source l.columns.items
