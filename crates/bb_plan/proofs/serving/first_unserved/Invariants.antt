use Rattle.std.proofs.Common.{ℕ, ◌<◌, length}
use Rattle.bb_base.specs.Net.{driven}
use Rattle.bb_terms.specs.Plan.{PlanValue, chain}
use Rattle.bb_terms.specs.Rules.{IsServed}
use Rattle.bb_plan.specs.Tables.{AreStanding}
use Rattle.bb_plan.proofs.serving.first_unserved.Given as goal

abbrev pub invariant-nets : goal.invariant-nets
invariant-nets l = (p : PlanValue) → AreStanding (length (driven l.netlist)) (chain p) l.table → (net : ℕ) → net < l.net → IsServed l.netlist p net
