-- Certificates: whether one lists a plan's segments with duals, and where it first doesn't (this project's own).
use Rattle.std.specs.Prelude.{◌≡◌, ◌⊎◌, ℕ, ◌+◌, ◌<◌, ◌^◌, List, map, slice_get, All}
use Rattle.bb_base.specs.Places.{EachAt, IsFirstWrong}
use Rattle.bb_base.specs.Dual.{AreDuals}
use Rattle.bb_terms.specs.Plan.{PlanValue}
use Rattle.bb_terms.specs.Valid.{SegmentValue, ValidValue, column_at}
use Rattle.bb_forms.specs.CertificateText.{CertificateSegmentValue, CertificateValue}

-- the first place at which two lists differ, be it that one of them has ended
pub record IsFirstApart {X : Type 0} (xs ys : List X) (place : ℕ) : Type 0 where
  pub before : (i : ℕ) → i < place → slice_get xs i ≡ slice_get ys i
  pub apart : slice_get xs place ≡ slice_get ys place → ⊥

-- the cells of a segment: its observer's, and those of its leaves' sources
abbrev pub segment_cells : SegmentValue → ℕ × List ℕ
segment_cells segment = (segment.cell, segment.leaves)

-- the cells that a certificate lists for one
abbrev pub line_cells : CertificateSegmentValue → ℕ × List ℕ
line_cells line = (line.cell, map (λ pair. pair.0) line.pairs)

-- rule 15: the walk's period, and a line for each segment with its cells
pub record ListsSegments (valid : ValidValue) (c : CertificateValue) : Type 0 where
  pub period : c.period ≡ 2 ^ valid.plan.degree
  pub cells : map line_cells c.segments ≡ map segment_cells valid.segments

-- a line of the file by its number: the period stands in line 2, and the segments from line 3 on
abbrev pub FirstDiffersIn : ValidValue → CertificateValue → ℕ → Type 0
FirstDiffersIn valid c line =
    ((line ≡ 2) × (c.period ≡ 2 ^ valid.plan.degree → ⊥))
    ⊎ ((c.period ≡ 2 ^ valid.plan.degree) × ((place : ℕ) × (line ≡ 3 + place) × IsFirstApart (map line_cells c.segments) (map segment_cells valid.segments) place))

-- rule 16, of one line: its pairs end in numbers as short as states, which are duals of its cells' columns
pub record HaveDuals (p : PlanValue) (pairs : List (ℕ × ℕ)) : Type 0 where
  pub short : All (λ pair. pair.1 < 2 ^ p.degree) pairs
  pub duals : AreDuals (map (λ pair. column_at p pair.0) pairs) (map (λ pair. pair.1) pairs)

abbrev pub AllHaveDuals : PlanValue → List CertificateSegmentValue → Type 0
AllHaveDuals p lines = EachAt lines (λ i line. HaveDuals p line.pairs)

-- the observer of the first line that has none
pub record IsFirstWithoutDuals (p : PlanValue) (lines : List CertificateSegmentValue) (cell : ℕ) : Type 0 where
  pub place : ℕ
  pub first : IsFirstWrong lines (λ i line. HaveDuals p line.pairs) place
  pub cell_is : cell ≡ first.item.cell
