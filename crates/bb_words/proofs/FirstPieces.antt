-- The first piece of words, by what the code finds.
use Rattle.std.proofs.Common.{◌≡◌, ℕ, List, ◌∷◌, ◌++◌, decimal, refl, Bor}
use Rattle.bb_words.specs.declared.setting.Setting.{Setting}
use Rattle.bb_words.specs.declared.piece.Piece.TheVariants.{Word, Number}
use Rattle.bb_words.specs.Options.{row_of, IsInRange}
use Rattle.bb_words.specs.Calls.{Positional, Apart, Joined, IsPositional}
use Rattle.bb_words.specs.Parts.{IsFirstPiece}

pub word_first : (all : List (List ℕ)) (word : Bor (List ℕ)) (rest : List (List ℕ)) → all ≡ word.now ∷ rest → IsPositional word.now → IsFirstPiece all (Word word) rest
word_first all word rest e sound = record { value = Positional word.now; sound = sound; written = e; word = refl; numbers = λ s. refl }

pub joined_first : (all : List (List ℕ)) (option name text : List ℕ) (rest : List (List ℕ)) (s : Setting) (n : ℕ) → all ≡ (45 ∷ 45 ∷ option) ∷ rest
    → option ≡ name ++ 61 ∷ text → name ≡ (row_of s).name → IsInRange s n → text ≡ decimal n → IsFirstPiece all (Number s n) rest
joined_first all option name text rest s n e parts is range number =
    record { value = Joined s n; sound = range; written = cc; word = refl; numbers = λ s. refl }

pub apart_first : (all : List (List ℕ)) (option text : List ℕ) (rest : List (List ℕ)) (s : Setting) (n : ℕ) → all ≡ (45 ∷ 45 ∷ option) ∷ text ∷ rest
    → option ≡ (row_of s).name → IsInRange s n → text ≡ decimal n → IsFirstPiece all (Number s n) rest
apart_first all option text rest s n e is range number =
    record { value = Apart s n; sound = range; written = cc; word = refl; numbers = λ s. refl }
