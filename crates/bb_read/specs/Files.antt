-- Files that are written one after another, and what names hold then (this project's own).
use Rattle.std.specs.Prelude.{◌≡◌, ◌≢◌, ℕ, List, [], ◌∷◌, ◌++◌, map, Contains}
use Rattle.std.specs.List.{AllByRecursion}
use Rattle.bb_edge.specs.Files.{FileValue}
use Rattle.bb_edge.specs.Told.{Told, Shows, KeepsOrStarts}

-- the names of files
abbrev pub names_of : List FileValue → List (List ℕ)
names_of files = map (λ f. f.0) files

-- no two files have one name
abbrev pub AreApart : List FileValue → Type 0
AreApart [] = Unit {0}
AreApart (f ∷ files) = AllByRecursion (λ g. f.0 ≢ g.0) files × AreApart files

-- each name holds its whole text, where that is told
abbrev pub AreWhole : List FileValue → (List ℕ → Told) → Type 0
AreWhole files new = AllByRecursion (λ f. Shows (new f.0) f.1) files

-- what every name but these holds stays as it was
abbrev pub SameButAll : List (List ℕ) → (List ℕ → Told) → (List ℕ → Told) → Type 0
SameButAll names old new = (other : List ℕ) → (Contains names other → ⊥) → new other ≡ old other

-- The writing failed at one of the files: those before it hold their whole texts, it holds what it held or a front of its text, and
-- those behind it hold what they held.
pub record AreCutShort (files : List FileValue) (old new : List ℕ → Told) : Type 0 where
  pub before : List FileValue
  pub failed : FileValue
  pub after : List FileValue
  pub files_are : files ≡ before ++ failed ∷ after
  pub whole : AreWhole before new
  pub partly : KeepsOrStarts (old failed.0) (new failed.0) failed.1
  pub untouched : AllByRecursion (λ f. new f.0 ≡ old f.0) after
