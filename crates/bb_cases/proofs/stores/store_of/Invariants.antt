use Rattle.std.proofs.Common.{◌≡◌, None}
use Rattle.bb_cases.proofs.stores.store_of.Given as goal

-- nothing is being written
abbrev pub invariant-files : goal.invariant-files
invariant-files l = l.store.writing ≡ None
