-- Room for a plan of a netlist: what a netlist and settings must have so that one is chosen, memory aside (this project's own).
use Rattle.std.specs.Prelude.{ℕ, ◌*◌, ◌-◌, ◌^◌, ◌<◌, ◌≤◌, List, length, nat_eq}
use Rattle.std.specs.List.{AllByRecursion}
use Rattle.std.specs.Set.{distinct_count}
use Rattle.bb_base.specs.Net.{Netlist}
use Rattle.bb_code.specs.Segments.{AreWithin, ListSources}
use Rattle.bb_reg.specs.Chosen.{GroupedValue}
use Rattle.bb_words.specs.declared.command.Settings.{Settings}
use Rattle.bb_choose.specs.Arranged.{segments_of, cell_count}
use Rattle.bb_choose.specs.Choice.{OfArranged, HasFullMask, cycle_count}

-- some degree in bounds has room for these registers
pub record HasRoom (settings : Settings) (grouped : GroupedValue) : Type 0 where
  pub degree : ℕ
  pub least : settings.min_degree ≤ degree
  pub most : degree ≤ settings.max_degree
  -- it has a state for each cell
  pub cells : cell_count grouped ≤ 2 ^ degree
  -- one source lies in at most `listed` segments and one segment has at most `size` sources; where there is a source in one, the degree
  -- has more states than the spans that can forbid a source have numbers
  pub listed : ℕ
  pub size : ℕ
  pub within : AreWithin listed size (segments_of grouped)
  pub columns : ListSources (segments_of grouped) → listed * 2 ^ (size - 1) < 2 ^ degree
  -- a test at this degree takes no more cycles than it may
  pub cycles : cycle_count grouped degree ≤ settings.max_cycles
  -- each degree in bounds up to this one has a mask of full period, and so has the length of each register
  pub degree_masks : (lower : ℕ) → settings.min_degree ≤ lower → lower ≤ degree → HasFullMask lower
  pub register_masks : AllByRecursion (λ g. HasFullMask (length g.cells)) grouped.registers

-- no gate reads more different nets than the width, and there is room for the registers that are chosen
pub record IsEnough (a : Netlist ℕ) (order : List ℕ) (settings : Settings) : Type 0 where
  pub narrow : AllByRecursion (λ g. distinct_count nat_eq g.ins ≤ settings.width) a.gates
  pub room : OfArranged a order settings (HasRoom settings)
