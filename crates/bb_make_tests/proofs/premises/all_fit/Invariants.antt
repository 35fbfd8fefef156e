use Rattle.std.proofs.Common.{◌<◌, ℕ, get_or}
use Rattle.bb_base.specs.Variables.{Entry}
use Rattle.bb_make_tests.proofs.Fit.{IsFit}
use Rattle.bb_make_tests.proofs.premises.all_fit.Given as goal

abbrev pub invariant-variables : goal.invariant-variables
invariant-variables l = (k : ℕ) → k < l.number → (d : Entry) → IsFit (get_or l.named.variables k d)
