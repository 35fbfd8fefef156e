-- The columns of the code: each source takes the least that no segment's span forbids (this project's own choice).
use Rattle.std.specs.Prelude.{◌≡◌, ℕ, ◌<◌, ◌^◌, List, length, take, map, filter, nat_lt, slice_index}
use Rattle.std.specs.List.{AllByRecursion}
use Rattle.bb_base.specs.Span.{IsInSpan}
use Rattle.bb_base.specs.Firsts.{IsLeast}
use Rattle.bb_code.specs.Segments.{listing}

-- the columns of some sources, in their order
abbrev pub columns_of : (columns sources : List ℕ) → List ℕ
columns_of columns sources = map (slice_index columns) sources

-- the columns that were given to a segment's sources so far, where the first sources have theirs
abbrev pub given_columns : (columns segment : List ℕ) → List ℕ
given_columns columns segment = columns_of columns (filter (λ source. nat_lt source (length columns)) segment)

-- for each segment that lists the next source, the columns that were given to its sources so far
abbrev pub forbidding : (segments : List (List ℕ)) (columns : List ℕ) → List (List ℕ)
forbidding segments columns = map (given_columns columns) (listing segments (length columns))

-- a column from 1 to 2^degree - 1 that is outside the span of each of these lists
pub record IsFree (degree : ℕ) (spans : List (List ℕ)) (column : ℕ) : Type 0 where
  pub nonzero : 0 < column
  pub fits : column < 2 ^ degree
  pub outside : AllByRecursion (λ rows. IsInSpan rows column → ⊥) spans

-- the columns of the first sources: each is the least that is free after those before it
abbrev pub AreColumns : (degree : ℕ) (segments : List (List ℕ)) (columns : List ℕ) → Type 0
AreColumns degree segments columns = (source : ℕ) → source < length columns
    → IsLeast (IsFree degree (forbidding segments (take source columns))) (slice_index columns source)

-- the columns of all of so many sources
pub record AreAllColumns (degree : ℕ) (segments : List (List ℕ)) (sources : ℕ) (columns : List ℕ) : Type 0 where
  pub one_each : length columns ≡ sources
  pub chosen : AreColumns degree segments columns

-- the first source for which no column is left
pub record IsStuckSource (degree : ℕ) (segments : List (List ℕ)) (source : ℕ) : Type 0 where
  pub columns : List ℕ
  pub before : AreAllColumns degree segments source columns
  pub none : (column : ℕ) → IsFree degree (forbidding segments columns) column → ⊥
