-- Lines with the duals of their source cells' columns, and the first line whose columns are dependent. No public contract cites this.
use Rattle.std.specs.Prelude.{◌≡◌, ℕ, List, map}
use Rattle.bb_base.specs.Places.{IsFirstWrong}
use Rattle.bb_base.specs.Dual.{AreLeastDuals}
use Rattle.bb_base.specs.Span.{IsIndependent}
use Rattle.bb_terms.specs.Valid.{SegmentValue}
use Rattle.bb_plan.specs.declared.chain.Link.{Link}
use Rattle.bb_plan.specs.Chain.{column_of_cell}
use Rattle.bb_plan.specs.Layout.{LineValue}

-- the line with its duals
pub record IsCodedLine (links : List Link) (line : LineValue) (segment : SegmentValue) : Type 0 where
  pub cell : segment.cell ≡ line.cell
  pub leaves : segment.leaves ≡ line.sources
  pub duals : AreLeastDuals (map (column_of_cell links) line.sources) segment.duals

-- the columns of a line's source cells are independent
abbrev pub IsIndependentLine : List Link → ℕ → LineValue → Type 0
IsIndependentLine links place line = IsIndependent (map (column_of_cell links) line.sources)

-- the observer of the first line of which they aren't
pub record IsFirstDependent (links : List Link) (lines : List LineValue) (cell : ℕ) : Type 0 where
  pub place : ℕ
  pub first : IsFirstWrong lines (IsIndependentLine links) place
  pub cell_is : cell ≡ first.item.cell
