-- How words of a line are read, and lines one after another. No public contract cites this.
use Rattle.std.specs.Prelude.{◌≡◌, ℕ, zero, suc, ◌==◌, List, [], ◌∷◌, ◌++◌, length, take, codes, Option, Some, None, if◌then◌else◌, Result, Ok, Err}
use Rattle.std.specs.Int.{w32, from_be_bytes}
use Rattle.std.specs.List.{AllByRecursion, flat_map}
use Rattle.std.specs.Option.{option_map}
use Rattle.hex.specs.Hex.{decode_sized}
use Rattle.hex.specs.declared.error.FromHexError.{FromHexError}
use Rattle.bb_spell.specs.Canonical.{with_feed}
use Rattle.bb_spell.specs.Front.{◌>>=◌, after_mark, at_end, number_below}
use Rattle.bb_spell.specs.TextLines.{IsLine}
use Rattle.bb_forms.specs.Fields.{hex_of}

-- the number below a limit that the next word is, and what follows it
unfoldable pub front_number : ℕ → List ℕ → Option (ℕ × List ℕ)
front_number limit bytes = after_mark (codes " ") bytes >>= (λ from. number_below limit from)

-- the number that four bytes are, the most significant first
abbrev pub hex_value : Result (List ℕ) FromHexError → Option ℕ
hex_value (Ok bytes) = Some (from_be_bytes w32 bytes)
hex_value (Err e) = None

-- the number that eight hexadecimal digits are, and what follows them
unfoldable pub hex_at : List ℕ → Option (ℕ × List ℕ)
hex_at digits = do
  n ← hex_value (decode_sized (take 8 digits) 4)
  rest ← after_mark (hex_of n) digits
  Some (n, rest)

-- as the next word
unfoldable pub front_hex : List ℕ → Option (ℕ × List ℕ)
front_hex bytes = after_mark (codes " ") bytes >>= (λ digits. hex_at digits)

-- the number of a line that is a mark and a number
unfoldable pub marked_number : List ℕ → ℕ → List ℕ → Option ℕ
marked_number mark limit line = do
  from ← after_mark mark line
  n ← front_number limit from
  at_end n.0 [] n.1

-- of a line that is a mark and a number in hexadecimal digits
unfoldable pub marked_hex : List ℕ → List ℕ → Option ℕ
marked_hex mark line = do
  from ← after_mark mark line
  n ← front_hex from
  at_end n.0 [] n.1

-- the items up to the end of a line, where there are at most so many
unfoldable pub listed_items : {A : Type 0} → (List ℕ → Option (A × List ℕ)) → ℕ → List ℕ → Option (List A)
listed_items item zero bytes = if length bytes == 0 then Some [] else None
listed_items item (suc most) bytes = if length bytes == 0 then Some [] else (item bytes >>= (λ r. option_map (λ items. r.0 ∷ items) (listed_items item most r.1)))

-- where lines lead from a stage
abbrev pub stage_behind : {S : Type 0} → (S → List ℕ → Option S) → Option S → List (List ℕ) → Option S
stage_behind step stage [] = stage
stage_behind step None (line ∷ lines) = None
stage_behind step (Some stage) (line ∷ lines) = stage_behind step (step stage line) lines

-- so many lines of the text have led from the start to the stage, and this is left
pub record HasLed {S : Type 0} (step : S → List ℕ → Option S) (start stage : S) (count : ℕ) (text rest : List ℕ) : Type 0 where
  pub lines : List (List ℕ)
  pub led : stage_behind step (Some start) lines ≡ Some stage
  pub clean : AllByRecursion IsLine lines
  pub whole : text ≡ flat_map with_feed lines ++ rest
  pub counted : count ≡ length lines
