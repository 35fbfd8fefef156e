-- The degree: the least at which each source has a column and there are no fewer states than cells.
use Rattle.std.specs.Prelude.{◌≡◌, ℕ, ◌<◌, ◌≤◌, ◌^◌, List, EachIndex, slice_index}
use Rattle.bb_code.specs.Columns.{AreAllColumns, IsStuckSource}
use Rattle.bb_code.specs.declared.fault.Need.{Need}
use Rattle.bb_code.specs.declared.fault.Need.TheVariants.{Cells, Source}

-- a degree of a range that has no fewer states than there are cells, and a column for each source
pub record IsCodeDegree (segments : List (List ℕ)) (sources cells min max degree : ℕ) : Type 0 where
  pub least : min ≤ degree
  pub most : degree ≤ max
  pub states : cells ≤ 2 ^ degree
  pub columns : (columns : List ℕ) × AreAllColumns degree segments sources columns

-- what the highest degree lacks: states for the cells, or else a column for the first source that is stuck there
abbrev pub IsNeed : (segments : List (List ℕ)) (sources cells max : ℕ) → Need → Type 0
IsNeed segments sources cells max (Cells c) = (c ≡ cells) × (2 ^ max < cells)
IsNeed segments sources cells max (Source source) = (cells ≤ 2 ^ max) × (source < sources) × IsStuckSource max segments source

-- a degree that has no fewer states than there are cells, and at which some columns fit
pub record IsFitting (columns : List ℕ) (cells degree : ℕ) : Type 0 where
  pub states : cells ≤ 2 ^ degree
  pub below : EachIndex columns (λ source. slice_index columns source < 2 ^ degree)
