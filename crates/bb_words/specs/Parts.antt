-- What the code's parts of a call stand for. These definitions serve proofs, and no public contract cites them.
use Rattle.std.specs.Prelude.{◌≡◌, ℕ, ◌≤◌, ◌==◌, List, [], ◌∷◌, ◌++◌, length, if◌then◌else◌, slice_index_or, None}
use Rattle.std.specs.List.{AllByRecursion, flat_map}
use Rattle.std.specs.Option.{option_to_list}
use Rattle.bb_words.specs.declared.setting.Setting.{Setting}
use Rattle.bb_words.specs.declared.piece.Piece.{Piece}
use Rattle.bb_words.specs.declared.piece.Piece.TheVariants.{Word, Number}
use Rattle.bb_words.specs.declared.said.Positional.{Positional as PositionalCode}
use Rattle.bb_words.specs.declared.said.Positional.TheVariants.{Nothing, One, Two}
use Rattle.bb_words.specs.declared.said.Said.{Said}
use Rattle.bb_words.specs.Options.{place_of, IsInRange}
use Rattle.bb_words.specs.Commands.{CommandValue}
use Rattle.bb_words.specs.Calls.{PieceValue, IsPiece, writing, positional_in, numbers_in, command_word, Takes}

-- the positional word that a piece of the code is, and the number that it gives to a setting
abbrev pub plain_words : Piece → List (List ℕ)
plain_words (Word word) = word.now ∷ []
plain_words (Number setting number) = []

abbrev pub numbers_by : Piece → Setting → List ℕ
numbers_by (Word word) setting = []
numbers_by (Number other number) setting = if place_of setting == place_of other then number ∷ [] else []

-- a piece of the code is one that words begin with
pub record IsFirstPiece (words : List (List ℕ)) (piece : Piece) (rest : List (List ℕ)) : Type 0 where
  pub value : PieceValue
  pub sound : IsPiece value
  pub written : words ≡ writing value ++ rest
  pub word : positional_in value ≡ plain_words piece
  pub numbers : (setting : Setting) → numbers_in setting value ≡ numbers_by piece setting

-- the positional words that were said, and the numbers
abbrev pub words_in : PositionalCode → List (List ℕ)
words_in Nothing = []
words_in (One first) = first.now ∷ []
words_in (Two first second) = first.now ∷ second.now ∷ []

abbrev pub numbers_said : Said → Setting → List ℕ
numbers_said said setting = option_to_list (slice_index_or said.numbers (place_of setting) None)

-- what was said is what pieces say that words begin with, before the rest
pub record HasSaid (all : List (List ℕ)) (said : Said) (rest : List (List ℕ)) : Type 0 where
  pub pieces : List PieceValue
  pub sound : AllByRecursion IsPiece pieces
  pub written : all ≡ flat_map writing pieces ++ rest
  pub words : words_in said.positional ≡ flat_map positional_in pieces
  pub numbers : (setting : Setting) → numbers_said said setting ≡ flat_map (numbers_in setting) pieces

-- each number that was said is in its option's range
abbrev pub AreAllowed : Said → Type 0
AreAllowed said = (setting : Setting) → AllByRecursion (IsInRange setting) (numbers_said said setting)

-- pieces that a command may have: at most two positional words, and no option twice
pub record AreFew (pieces : List PieceValue) : Type 0 where
  pub words : length (flat_map positional_in pieces) ≤ 2
  pub once : (setting : Setting) → length (flat_map (numbers_in setting) pieces) ≤ 1

-- the command that a first word and what was said behind it mean
pub record IsCommand (word : List ℕ) (said : Said) (command : CommandValue) : Type 0 where
  pub front : command_word command ≡ word
  pub takes : Takes command (words_in said.positional) (numbers_said said)
