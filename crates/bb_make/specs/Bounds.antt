-- A plan as it is chosen, and how large a valid plan is. No public contract cites this.
use Rattle.std.specs.Prelude.{ℕ, ◌<◌, ◌≤◌, ◌^◌, List, length, nat_eq}
use Rattle.std.specs.List.{AllByRecursion}
use Rattle.std.specs.Set.{distinct_count}
use Rattle.bb_base.specs.Net.{Netlist}
use Rattle.bb_terms.specs.Plan.{PlanValue, chain}
use Rattle.bb_words.specs.declared.command.Settings.{Settings}
use Rattle.bb_choose.specs.Choice.{IsChosenPlan}
use Rattle.bb_forms.specs.ScheduleText.{test_cycles}

-- a chosen plan, whose test takes no more cycles than it may, where no gate has more different inputs than the width
pub record IsPlanWithin (a : Netlist ℕ) (order : List ℕ) (settings : Settings) (p : PlanValue) : Type 0 where
  pub chosen : IsChosenPlan a order settings p
  pub within : test_cycles p ≤ settings.max_cycles
  pub narrow : AllByRecursion (λ g. distinct_count nat_eq g.ins ≤ settings.width) a.gates

-- its degree is 1 to 20, and its cells, registers and sessions are fewer than 2^32
pub record HasBounds (p : PlanValue) : Type 0 where
  pub degree_least : 1 ≤ p.degree
  pub degree_most : p.degree ≤ 20
  pub cells : length (chain p) < 2 ^ 32
  pub registers : length p.registers < 2 ^ 32
  pub sessions : length p.sessions < 2 ^ 32
