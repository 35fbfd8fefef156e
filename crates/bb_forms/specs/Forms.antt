-- Which line of a text is the first that isn't of a form, or that is missing: the lines before it begin some text of the form, and with it they don't.
-- A form is given by the lists of lines that its texts have.
use Rattle.std.specs.Prelude.{◌≡◌, ◌≢◌, ℕ, ◌+◌, min, List, [], ◌∷◌, ◌++◌, length}
use Rattle.std.specs.List.{AllByRecursion, flat_map}
use Rattle.bb_spell.specs.Canonical.{with_feed}
use Rattle.bb_spell.specs.TextLines.{IsLine}

-- the lines are the first ones of a text of the form
abbrev pub Begin : (List (List ℕ) → Type 0) → List (List ℕ) → Type 0
Begin IsForm lines = (others : List (List ℕ)) × IsForm (lines ++ others)

-- the first line that isn't of the form, by its number: the lines before it begin a text of the form, and with it they begin none; or it
-- is missing, where what is left has no line feed and isn't the nothing that follows a whole text
pub record IsFirstUnformed (IsForm : List (List ℕ) → Type 0) (number : ℕ) (text : List ℕ) : Type 0 where
  pub lines : List (List ℕ)
  pub rest : List ℕ
  pub whole : text ≡ flat_map with_feed lines ++ rest
  pub clean : AllByRecursion IsLine lines
  pub begin : Begin IsForm lines
  pub bad : (line after : List ℕ) → IsLine line → rest ≡ with_feed line ++ after → Begin IsForm (lines ++ line ∷ []) → ⊥
  pub no_end : IsForm lines → rest ≢ []
  pub counted : number ≡ length lines + 1

-- its number as it is told: at most the greatest that fits
abbrev pub IsUnformedLine : (List (List ℕ) → Type 0) → ℕ → List ℕ → Type 0
IsUnformedLine IsForm told text = (number : ℕ) × IsFirstUnformed IsForm number text × (told ≡ min 4294967295 number)
