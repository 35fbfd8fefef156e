-- What the words of a call mean. The form of words is this project's own.
use Rattle.std.specs.Prelude.{◌≡◌, ◌≢◌, ℕ, ◌≤◌, ◌==◌, List, [], ◌∷◌, ◌++◌, length, codes, decimal, if◌then◌else◌, slice_index_or}
use Rattle.std.specs.List.{AllByRecursion, flat_map}
use Rattle.bb_words.specs.declared.setting.Setting.{Setting}
use Rattle.bb_words.specs.declared.setting.Setting.TheVariants.{Width, MinDegree, MaxDegree, MaxCycles, Register}
use Rattle.bb_words.specs.declared.command.Settings.{Settings}
use Rattle.bb_words.specs.Options.{row_of, place_of, IsInRange}
use Rattle.bb_words.specs.Commands.{CommandValue, Compile, Check, Sample}

-- a piece of a call: a positional word, or an option with its number, which stands apart from it or is joined to it
pub data PieceValue : Type 0 where
  Positional : (word : List ℕ) → PieceValue
  Apart : (setting : Setting) (number : ℕ) → PieceValue
  Joined : (setting : Setting) (number : ℕ) → PieceValue

-- the words that a piece is written as: `WORD`, `--NAME NUMBER` or `--NAME=NUMBER`
abbrev pub writing : PieceValue → List (List ℕ)
writing (Positional word) = word ∷ []
writing (Apart setting number) = (codes "--" ++ (row_of setting).name) ∷ decimal number ∷ []
writing (Joined setting number) = (codes "--" ++ ((row_of setting).name ++ (codes "=" ++ decimal number))) ∷ []

-- a word that is no option: it isn't empty, and doesn't begin with `-`
abbrev pub IsPositional : List ℕ → Type 0
IsPositional [] = ⊥
IsPositional (byte ∷ bytes) = byte ≢ 45

-- a positional word, or an option with a number in its range
abbrev pub IsPiece : PieceValue → Type 0
IsPiece (Positional word) = IsPositional word
IsPiece (Apart setting number) = IsInRange setting number
IsPiece (Joined setting number) = IsInRange setting number

-- the positional word that a piece is, if it is one
abbrev pub positional_in : PieceValue → List (List ℕ)
positional_in (Positional word) = word ∷ []
positional_in (Apart setting number) = []
positional_in (Joined setting number) = []

-- the number that a piece gives to a setting, if it gives it one
abbrev pub numbers_in : Setting → PieceValue → List ℕ
numbers_in setting (Positional word) = []
numbers_in setting (Apart other number) = if place_of setting == place_of other then number ∷ [] else []
numbers_in setting (Joined other number) = if place_of setting == place_of other then number ∷ [] else []

-- what is set
abbrev pub setting_in : Settings → Setting → ℕ
setting_in settings Width = settings.width
setting_in settings MinDegree = settings.min_degree
setting_in settings MaxDegree = settings.max_degree
setting_in settings MaxCycles = settings.max_cycles
setting_in settings Register = settings.register

-- settings by the numbers that options give: each has the number of its option, or its default where the option isn't given
pub record AreSettings (numbers : Setting → List ℕ) (settings : Settings) : Type 0 where
  pub each : (setting : Setting) → setting_in settings setting ≡ slice_index_or (numbers setting) 0 (row_of setting).default
  pub degrees : settings.min_degree ≤ settings.max_degree

-- the first word of a command
abbrev pub command_word : CommandValue → List ℕ
command_word (Compile input prefix settings) = codes "compile"
command_word (Check input prefix) = codes "check"
command_word (Sample number prefix settings) = codes "sample"

-- what a command takes: its positional words, and the numbers that options give
abbrev pub Takes : CommandValue → List (List ℕ) → (Setting → List ℕ) → Type 0
Takes (Compile input prefix settings) words numbers = (words ≡ input ∷ prefix ∷ []) × AreSettings numbers settings
Takes (Check input prefix) words numbers = (words ≡ input ∷ prefix ∷ []) × ((setting : Setting) → numbers setting ≡ [])
Takes (Sample number prefix settings) words numbers = (words ≡ decimal number ∷ prefix ∷ []) × (1 ≤ number) × (number ≤ 65536) × AreSettings numbers settings

-- words mean a command: its first word, and then pieces in any order of what it takes, with no option twice
pub record Means (words : List (List ℕ)) (command : CommandValue) : Type 0 where
  pub pieces : List PieceValue
  pub written : words ≡ command_word command ∷ flat_map writing pieces
  pub each : AllByRecursion IsPiece pieces
  pub once : (setting : Setting) → length (flat_map (numbers_in setting) pieces) ≤ 1
  pub takes : Takes command (flat_map positional_in pieces) (λ setting. flat_map (numbers_in setting) pieces)
