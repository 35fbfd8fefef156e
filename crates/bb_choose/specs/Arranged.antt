-- What is chosen for a netlist before any column is: its cuts, its cells and its registers, and the segments by the numbers of their sources.
use Rattle.std.specs.Prelude.{◌≡◌, ℕ, ◌≤◌, List, length, map, filter, not, nat_eq}
use Rattle.std.specs.List.{flat_map, prefix_len}
use Rattle.bb_base.specs.Net.{Netlist}
use Rattle.bb_terms.specs.Cuts.{AreCuts}
use Rattle.bb_terms.specs.declared.plan.Cell.{Cell}
use Rattle.bb_terms.specs.Kinds.{is_source}
use Rattle.bb_terms.specs.Plan.{RegisterValue}
use Rattle.bb_reg.specs.Draft.{DraftValue, AreCells}
use Rattle.bb_reg.specs.Chosen.{GroupedValue, grouped_of}
use Rattle.bb_words.specs.declared.command.Settings.{Settings}

-- what settings may be
pub record AreInRange (settings : Settings) : Type 0 where
  pub width_least : 2 ≤ settings.width
  pub width_most : settings.width ≤ 12
  pub degree_least : 1 ≤ settings.min_degree
  pub degrees : settings.min_degree ≤ settings.max_degree
  pub degree_most : settings.max_degree ≤ 20
  pub register_least : 1 ≤ settings.register
  pub register_most : settings.register ≤ 16

-- the registers that are chosen for a netlist, with the leaves of each cell's line: its cuts, the cells that it needs with them, and these in registers
pub record IsArranged (a : Netlist ℕ) (order : List ℕ) (settings : Settings) (grouped : GroupedValue) : Type 0 where
  pub cuts : List ℕ
  pub cuts_are : AreCuts a.gates order settings.width cuts
  pub draft : DraftValue
  pub cells_are : AreCells a cuts draft
  pub grouped_is : grouped ≡ grouped_of draft settings.register

-- the source cells, in the order of the chain
abbrev pub sources_of_chain : List RegisterValue → List Cell
sources_of_chain registers = filter (λ c. is_source c.kind) (flat_map (λ g. g.cells) registers)

abbrev pub source_nets : List RegisterValue → List ℕ
source_nets registers = map (λ c. c.net) (sources_of_chain registers)

abbrev pub source_columns : List RegisterValue → List ℕ
source_columns registers = map (λ c. c.column) (sources_of_chain registers)

-- the number of the source on a net: how many stand before it
abbrev pub source_number : List ℕ → ℕ → ℕ
source_number nets net = prefix_len (λ other. not (nat_eq net other)) nets

-- for each cell the numbers of the sources at the leaves of its line
abbrev pub segments_of : GroupedValue → List (List ℕ)
segments_of grouped = map (map (source_number (source_nets grouped.registers))) grouped.leaves

abbrev pub source_count : GroupedValue → ℕ
source_count grouped = length (source_nets grouped.registers)

abbrev pub cell_count : GroupedValue → ℕ
cell_count grouped = length (flat_map (λ (g : RegisterValue). g.cells) grouped.registers)
