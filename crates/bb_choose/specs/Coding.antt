-- What the code that chooses keeps: the numbers of sources by their nets, and cells with their columns. No public contract cites this.
use Rattle.std.specs.Prelude.{◌≡◌, ◌≢◌, ℕ, ◌<◌, ◌≤◌, true, List, length, map, AllPairs, Some, slice_get, slice_index, Contains, if◌then◌else◌}
use Rattle.std.specs.List.{AllByRecursion, flat_map}
use Rattle.std.specs.List.Sorted.{IsStrictlyIncreasing}
use Rattle.bb_terms.specs.declared.plan.Cell.{Cell}
use Rattle.bb_terms.specs.Kinds.{is_source}
use Rattle.bb_terms.specs.Plan.{RegisterValue}
use Rattle.bb_reg.specs.Chosen.{GroupedValue}
use Rattle.bb_choose.specs.Arranged.{source_nets, segments_of}
use Rattle.bb_code.specs.Segments.{IsSegment}

-- leaves are source nets, in ascending order
pub record AreLeafNets (nets leaves : List ℕ) : Type 0 where
  pub ascending : IsStrictlyIncreasing leaves
  pub sources : AllByRecursion (Contains nets) leaves

-- sources differ in their nets, which are among so many, and each leaf is one
pub record CanTakeColumns (nets : ℕ) (grouped : GroupedValue) : Type 0 where
  pub apart : AllPairs (λ x y. x ≢ y) (source_nets grouped.registers)
  pub within : AllByRecursion (λ net. net < nets) (source_nets grouped.registers)
  pub leaves : AllByRecursion (AreLeafNets (source_nets grouped.registers)) grouped.leaves
  pub one_each : length grouped.leaves ≡ length (flat_map (λ (g : RegisterValue). g.cells) grouped.registers)
  pub some : AllByRecursion (λ (g : RegisterValue). 1 ≤ length g.cells) grouped.registers
  pub few : AllByRecursion (λ (g : RegisterValue). length g.cells ≤ 16) grouped.registers
  pub cells_few : length (flat_map (λ (g : RegisterValue). g.cells) grouped.registers) ≤ 4194304
  pub registers_few : length grouped.registers ≤ 4194304

-- the table has the number of each source at its net
abbrev pub AreNumbers : (sources numbers : List ℕ) → Type 0
AreNumbers sources numbers = (number net : ℕ) → slice_get sources number ≡ Some net → slice_index numbers net ≡ number

-- the cell with its source's column
abbrev pub coded_cell : (numbers columns : List ℕ) → Cell → Cell
coded_cell numbers columns c = record { kind = c.kind; net = c.net; column = if is_source c.kind then slice_index columns (slice_index numbers c.net) else 0 }

-- the cell's source has a number, and that a column
pub record HasColumn (numbers columns : List ℕ) (c : Cell) : Type 0 where
  pub net : is_source c.kind ≡ true → c.net < length numbers
  pub number : is_source c.kind ≡ true → slice_index numbers c.net < length columns

-- the register with columns and a mask
abbrev pub coded_register : (numbers columns masks : List ℕ) → RegisterValue → RegisterValue
coded_register numbers columns masks g = record { mask = slice_index masks (length g.cells); cells = map (coded_cell numbers columns) g.cells }

-- a register has this length
abbrev pub HasLength : List RegisterValue → ℕ → Type 0
HasLength registers cells = (g : RegisterValue) × Contains registers g × (length g.cells ≡ cells)

-- sources by their nets, the table of their numbers, and the segments by these
pub record AreSourcesOf (grouped : GroupedValue) (nets numbers : List ℕ) (segments : List (List ℕ)) : Type 0 where
  pub nets_are : nets ≡ source_nets grouped.registers
  pub numbers_are : AreNumbers nets numbers
  pub within : AllByRecursion (λ net. net < length numbers) nets
  pub segments_are : segments ≡ segments_of grouped
  pub each : AllByRecursion (IsSegment (length nets)) segments
