-- The plan that is chosen for a netlist meets every rule.
use Rattle.std.proofs.Common.{ℕ, ◌≤◌, List, length, subst}
use Rattle.bb_base.specs.Net.{Netlist, IsNetlist, driven}
use Rattle.bb_base.specs.Order.{IsOrder}
use Rattle.bb_terms.specs.Cuts.{AreCuts}
use Rattle.bb_terms.specs.Plan.{PlanValue}
use Rattle.bb_terms.specs.Rules.{Rule, Holds, Frame, Registers, Kinds, Apart, Served, Pure, Sessions, Compacted, Room, Columns, Widths, Conflicts, Codes, Period}
use Rattle.bb_terms.specs.Valid.{IsValidPlan}
use Rattle.bb_reg.specs.Draft.{DraftValue, AreCells}
use Rattle.bb_reg.specs.Chosen.{GroupedValue, grouped_of}
use Rattle.bb_choose.specs.ChosenPlan.{AreCutsOf, IsChosen}
use Rattle.bb_choose.proofs.CellRules.{kinds_held, apart_held, served_held, pure_held}
use Rattle.bb_choose.proofs.SessionRules.{sessions_meet, compacted}
use Rattle.bb_choose.proofs.ConflictRules.{conflicts_meet}
use Rattle.bb_words.specs.declared.command.Settings.{Settings}
use Rattle.bb_choose.specs.Arranged.{AreInRange}
use Rattle.bb_choose.specs.Choice.{IsPlanOf, IsChosenPlan}
use Rattle.bb_choose.proofs.ValidCells.{cuts_of, frame_held, registers_held, room_held, columns_held}
use Rattle.bb_choose.proofs.ValidLines.{chosen, widths_held}
use Rattle.bb_choose.proofs.ValidCodes.{codes_held}

module _ (a : Netlist ℕ) (order : List ℕ) (settings : Settings) (cuts : List ℕ) (draft : DraftValue) (p : PlanValue) (is : IsNetlist a) (ordered : IsOrder a.gates order) (few : length (driven a) ≤ 2097152)
    (range : AreInRange settings) (cut : AreCuts a.gates order settings.width cuts) (cells : AreCells a cuts draft) (plan : IsPlanOf settings (grouped_of draft settings.register) p) where
  cuts_are : AreCutsOf a cuts
  cuts_are = cuts_of a order settings.width cuts is ordered cut

  chosen_is : IsChosen a cuts settings.register p
  chosen_is = chosen a settings cuts draft p cuts_are cells plan

  abbrev grouped : GroupedValue
  grouped = grouped_of draft settings.register

  each_rule : (rule : Rule) → Holds a p rule
  each_rule Frame = frame_held settings grouped p plan a range
  each_rule Registers = registers_held a settings draft p range plan
  each_rule Kinds = kinds_held a cuts settings.register p cuts_are chosen_is
  each_rule Apart = apart_held a cuts settings.register p cuts_are chosen_is
  each_rule Served = served_held a cuts settings.register p cuts_are chosen_is
  each_rule Pure = pure_held a cuts settings.register p cuts_are chosen_is
  each_rule Sessions = sessions_meet a cuts settings.register p cuts_are few chosen_is
  each_rule Compacted = compacted a cuts settings.register p chosen_is
  each_rule Room = room_held settings grouped p plan a
  each_rule Columns = columns_held settings grouped p plan a
  each_rule Widths = widths_held a settings cuts draft p cuts_are cells plan order range cut
  each_rule Conflicts = conflicts_meet a cuts settings.register p cuts_are chosen_is
  each_rule Codes = codes_held a settings cuts draft p cuts_are cells plan
  each_rule Period = plan.mask.holds.full

  pub plan_valid : IsValidPlan a p
  plan_valid = record { order = (order, ordered); meets = each_rule }

pub chosen_valid : (a : Netlist ℕ) (order : List ℕ) (settings : Settings) (p : PlanValue) → IsNetlist a → IsOrder a.gates order → length (driven a) ≤ 2097152 → AreInRange settings → IsChosenPlan a order settings p → IsValidPlan a p
chosen_valid a order settings p is ordered few range choice =
    let arranged = choice.arranged in
    plan_valid a order settings arranged.cuts arranged.draft p is ordered few range arranged.cuts_are arranged.cells_are (subst (λ (g : GroupedValue). IsPlanOf settings g p) arranged.grouped_is choice.holds)
