-- Segments turned round: for each source the segments that list it.
use Rattle.std.specs.Prelude.{◌≡◌, ℕ, ◌<◌, List, [], length, map}
use Rattle.std.specs.List.{AllByRecursion, slice_index_or}
use Rattle.bb_code.specs.Segments.{listing}

-- the segments at some places
abbrev pub at_places : List (List ℕ) → List ℕ → List (List ℕ)
at_places segments places = map (λ place. slice_index_or segments place []) places

-- for each of so many sources the places of the segments that list it
pub record AreListings (segments : List (List ℕ)) (sources : ℕ) (listings : List (List ℕ)) : Type 0 where
  pub one_each : length listings ≡ sources
  pub within : (source : ℕ) → source < sources → AllByRecursion (λ place. place < length segments) (slice_index_or listings source [])
  pub listed : (source : ℕ) → source < sources → at_places segments (slice_index_or listings source []) ≡ listing segments source
