use Rattle.std.proofs.Common.{◌≡◌, drop, fold, map}
use Rattle.bb_scope.specs.Uses.{with_use}
use Rattle.bb_width.proofs.table.add_refs.Given as goal

abbrev pub invariant-loop-reference : goal.invariant-loop-reference
invariant-loop-reference l = fold (with_use l.said.entries) l.used (map (λ r. r.name) (drop l.reference-index l.refs)) ≡ fold (with_use l.said.entries) l.initial.used (map (λ r. r.name) l.refs)
