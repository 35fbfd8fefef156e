-- A plan that is chosen for a named netlist of few bits is valid.
use Rattle.std.proofs.Common.{arith, ℕ, ◌≤◌, List, length}
use Rattle.bb_base.specs.Variables.{bit_count}
use Rattle.bb_base.specs.Net.{Netlist, IsNetlist, driven}
use Rattle.bb_base.specs.Order.{IsOrder}
use Rattle.bb_base.specs.Named.{Named, IsNamed}
use Rattle.bb_terms.specs.Plan.{PlanValue}
use Rattle.bb_terms.specs.Valid.{IsValidPlan}
use Rattle.bb_words.specs.declared.command.Settings.{Settings}
use Rattle.bb_choose.specs.Arranged.{AreInRange}
use Rattle.bb_choose.specs.Choice.{IsChosenPlan}

-- by the laws that a chosen plan of few nets is valid, and that there are no more nets than bits
pub plan_valid : (law : (a : Netlist ℕ) (order : List ℕ) (settings : Settings) (p : PlanValue) → IsNetlist a → IsOrder a.gates order → length (driven a) ≤ 2097152 → AreInRange settings → IsChosenPlan a order settings p → IsValidPlan a p)
    (nets : (n : Named) → IsNamed n → length n.names ≤ bit_count n.variables) (a : Named) (order : List ℕ) (settings : Settings) (p : PlanValue) → IsNamed a → bit_count a.variables ≤ 2097152 → IsOrder a.netlist.gates order → AreInRange settings
    → IsChosenPlan a.netlist order settings p → IsValidPlan a.netlist p
plan_valid law nets a order settings p named few ordered range chosen =
    let bits = nets a named in
    let names = named.names in
    law a.netlist order settings p named.netlist ordered (omega (arith, bits, names, few)) range chosen
