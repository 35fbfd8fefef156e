-- A text as lines, of which each leads from one stage of the text to another: by what is found line by line, and by the forms of lines.
use Rattle.std.specs.Prelude.{◌≡◌, ◌≢◌, ℕ, ◌+◌, ◌==◌, Bool, true, not, List, [], ◌∷◌, ◌++◌, length, take, drop, Option, Some, None, if◌then◌else◌}
use Rattle.std.specs.List.{prefix_len, list_all, flat_map, slice_split}
use Rattle.bb_spell.specs.Canonical.{with_feed}

-- a byte of a line
abbrev pub is_line_byte : ℕ → Bool
is_line_byte b = not (b == 10)

-- a line: bytes without a line feed
abbrev pub IsLine : List ℕ → Type 0
IsLine bytes = list_all is_line_byte bytes ≡ true

-- the first line, and what follows its line feed, where it has one
unfoldable pub first_line : List ℕ → Option (List ℕ × List ℕ)
first_line text = if length (drop (prefix_len is_line_byte text) text) == 0 then None else Some (take (prefix_len is_line_byte text) text, drop 1 (drop (prefix_len is_line_byte text) text))

-- the pieces of a text between line feeds: its lines, and what follows the last of them
abbrev pub pieces_of : List ℕ → List (List ℕ)
pieces_of text = slice_split (λ b. b == 10) text

-- the number of the first line that may not stand in its place, or that is missing: so many lines have led to a stage, or the last of them may not stand; the last piece of those to come has no line feed
abbrev pub first_bad : {S : Type 0} → (S → List ℕ → Option S) → (S → List ℕ → Bool) → Option S → ℕ → List (List ℕ) → Option ℕ
first_bad after ends None lines pieces = Some lines
first_bad after ends (Some stage) lines [] = Some (lines + 1)
first_bad after ends (Some stage) lines (rest ∷ []) = if ends stage rest then None else Some (lines + 1)
first_bad after ends (Some stage) lines (line ∷ next ∷ pieces) = first_bad after ends (after stage line) (lines + 1) (next ∷ pieces)

-- lines lead from one stage to another, one after the other
abbrev pub LeadAll : {S : Type 0} → (S → List ℕ → S → Type 0) → S → List (List ℕ) → S → Type 0
LeadAll leads from [] to = from ≡ to
LeadAll {S} leads from (line ∷ lines) to = (next : S) × IsLine line × leads from line next × LeadAll leads next lines to

-- the lines of the text lead from one stage to another
pub record IsLedTo {S : Type 0} (leads : S → List ℕ → S → Type 0) (from to : S) (text : List ℕ) : Type 0 where
  pub lines : List (List ℕ)
  pub led : LeadAll leads from lines to
  pub whole : text ≡ flat_map with_feed lines

-- lines lead from one stage to another, and what is left of the text doesn't begin with a line that leads on, nor is it the end
pub record IsBadBehind {S : Type 0} (leads : S → List ℕ → S → Type 0) (end from : S) (before number : ℕ) (text : List ℕ) : Type 0 where
  pub lines : List (List ℕ)
  pub stage : S
  pub led : LeadAll leads from lines stage
  pub rest : List ℕ
  pub whole : text ≡ flat_map with_feed lines ++ rest
  pub bad : (line after : List ℕ) (to : S) → IsLine line → rest ≡ with_feed line ++ after → leads stage line to → ⊥
  pub no_end : stage ≡ end → rest ≢ []
  pub counted : number ≡ before + length lines + 1
