-- Segments: for each observed line the sources that it depends on, by their numbers.
use Rattle.std.specs.Prelude.{ℕ, ◌<◌, ◌≤◌, Bool, List, length, map, filter, nat_eq}
use Rattle.std.specs.List.{IsDistinct, AllByRecursion, list_any}
use Rattle.arrayvec.specs.ArrayVec.{ArrayVec}

-- what each segment lists
abbrev pub sources_of : List (ArrayVec ℕ) → List (List ℕ)
sources_of segments = map (λ segment. segment.items) segments

-- distinct sources, each below their count
pub record IsSegment (sources : ℕ) (segment : List ℕ) : Type 0 where
  pub below : AllByRecursion (λ source. source < sources) segment
  pub distinct : IsDistinct nat_eq segment

-- whether a segment lists a source
abbrev pub lists : ℕ → List ℕ → Bool
lists source segment = list_any (nat_eq source) segment

-- the segments that list a source
abbrev pub listing : List (List ℕ) → ℕ → List (List ℕ)
listing segments source = filter (lists source) segments

-- some segment lists a source
abbrev pub ListSources : List (List ℕ) → Type 0
ListSources segments = (source : ℕ) × (0 < length (listing segments source))

-- at most so many segments list one source, and at most so many sources lie in one segment
pub record AreWithin (listed size : ℕ) (segments : List (List ℕ)) : Type 0 where
  pub each_source : (source : ℕ) → length (listing segments source) ≤ listed
  pub each_segment : AllByRecursion (λ segment. length segment ≤ size) segments
