use Rattle.std.proofs.Common.{◌<◌, ◌≤◌, ℕ}
use Rattle.bb_code.specs.Degree.{IsFitting}
use Rattle.bb_code.proofs.search.least_degree.Given as goal

abbrev pub invariant-loop-degree : goal.invariant-loop-degree
invariant-loop-degree l = (degree : ℕ) → l.min ≤ degree → degree < l.degree → IsFitting l.columns l.cells degree → ⊥
