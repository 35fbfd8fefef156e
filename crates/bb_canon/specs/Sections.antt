-- What a whole line says, or nothing where it is no line of its kind. No public contract cites this.
use Rattle.std.specs.Prelude.{◌≡◌, Bool, true, false, not, is_some, ℕ, List, [], ◌∷◌, ◌++◌, codes, if◌then◌else◌}
use Rattle.std.specs.List.{list_all, flat_map, AllByRecursion}
use Rattle.std.specs.Str.{bytes_eq}
use Rattle.bb_spell.specs.Canonical.{with_feed}
use Rattle.bb_spell.specs.Front.{begins_with, word_of}
use Rattle.bb_spell.specs.Lines.{word_role}
use Rattle.bb_spell.specs.TextLines.{is_line_byte}

-- the line begins as one that declares a variable
unfoldable pub declares : List ℕ → Bool
declares line = is_some (word_role (word_of line))

-- as one of a flip-flop
unfoldable pub clocks : List ℕ → Bool
clocks line = begins_with (codes "dff ") line

-- as neither such a line nor the last one
unfoldable pub states_gate : List ℕ → Bool
states_gate line = if begins_with (codes "dff ") line then false else not (bytes_eq line (codes "endmodule"))

-- a line without line feeds that begins as one of its kind
pub record IsLineOf (test : List ℕ → Bool) (line : List ℕ) : Type 0 where
  pub clean : list_all is_line_byte line ≡ true
  pub passes : test line ≡ true

-- none such comes first
abbrev pub NoneFirst : (List ℕ → Bool) → List (List ℕ) → Type 0
NoneFirst test [] = Unit {0}
NoneFirst test (line ∷ lines) = (list_all is_line_byte line ≡ true) × (test line ≡ false)

-- the text is such lines, and then these others
pub record IsSection (test : List ℕ → Bool) (text : List ℕ) (others : List (List ℕ)) : Type 0 where
  pub lines : List (List ℕ)
  pub all : AllByRecursion (IsLineOf test) lines
  pub stops : NoneFirst test others
  pub text_is : text ≡ flat_map with_feed (lines ++ others)
