-- From what was said to the command that words mean, and that it is one.
use Rattle.std.proofs.Common.{◌≡◌, ◌⊎◌, ℕ, ◌≤◌, List, [], ◌∷◌, length, codes, decimal, sym, ◌∙◌, ap, subst, arith, inl, inr, Contains, slice_index_or, append-nil, Option, Some, None, Result, Ok, Err, IfOk}
use Rattle.std.specs.Option.{option_to_list}
use Rattle.std.specs.List.{AllByRecursion, flat_map}
use Rattle.std.proofs.lemmas.Fmt.{decimal_injective}
use Rattle.bb_base.proofs.Contained.{here, either, none_in}
use Rattle.bb_words.specs.declared.setting.Setting.{Setting}
use Rattle.bb_words.specs.declared.setting.Setting.TheVariants.{Width, MinDegree, MaxDegree, MaxCycles, Register}
use Rattle.bb_words.specs.declared.command.Settings.{Settings}
use Rattle.bb_words.specs.declared.said.Said.{Said}
use Rattle.bb_words.specs.Options.{row_of, place_of}
use Rattle.bb_words.specs.declared.command.Command.{Command}
use Rattle.bb_words.specs.declared.command.WordsFault.{WordsFault}
use Rattle.bb_words.specs.Commands.{command_value, CommandValue, Compile, Check, Sample, files_of, HasSameName}
use Rattle.bb_words.specs.Calls.{PieceValue, IsPiece, writing, positional_in, numbers_in, AreSettings, command_word, Takes, Means}
use Rattle.bb_words.specs.Parts.{words_in, numbers_said, HasSaid, AreFew, IsCommand}
use Rattle.bb_words.proofs.Pieces.{one_reading}

-- settings by the same numbers are the same
pub one_setting : (numbers : Setting → List ℕ) (a b : Settings) → AreSettings numbers a → AreSettings numbers b → a ≡ b
one_setting numbers a b ha hb =
    made a.width b.width a.min_degree b.min_degree a.max_degree b.max_degree a.max_cycles b.max_cycles a.register b.register
    (ha.each Width ∙ sym (hb.each Width)) (ha.each MinDegree ∙ sym (hb.each MinDegree)) (ha.each MaxDegree ∙ sym (hb.each MaxDegree))
    (ha.each MaxCycles ∙ sym (hb.each MaxCycles)) (ha.each Register ∙ sym (hb.each Register))
  where
    made : (u v i j m n x y r s : ℕ) → u ≡ v → i ≡ j → m ≡ n → x ≡ y → r ≡ s
        → ◌≡◌ {A = Settings} (record { width = u; min_degree = i; max_degree = m; max_cycles = x; register = r })
        (record { width = v; min_degree = j; max_degree = n; max_cycles = y; register = s })
    made u v i j m n x y r s e f g h k = cc

along_settings : (f g : Setting → List ℕ) (a : Settings) → ((s : Setting) → f s ≡ g s) → AreSettings f a → AreSettings g a
along_settings f g a same h = record { each = λ s. h.each s ∙ ap (λ x. slice_index_or x 0 (row_of s).default) (same s); degrees = h.degrees }

-- what a command takes depends on the words and on each setting's numbers alone
pub along : (c : CommandValue) (v w : List (List ℕ)) (f g : Setting → List ℕ) → v ≡ w → ((s : Setting) → f s ≡ g s) → Takes c v f → Takes c w g
along (Compile input prefix settings) v w f g e same h = (sym e ∙ h.0, along_settings f g settings same h.1)
along (Check input prefix) v w f g e same h = (sym e ∙ h.0, λ s. sym (same s) ∙ h.1 s)
along (Sample number prefix settings) v w f g e same h = (sym e ∙ h.0, h.1, h.2, along_settings f g settings same h.3)

-- what is taken makes a command of a first word the only one
pub one_taken : (c d : CommandValue) (words : List (List ℕ)) (numbers : Setting → List ℕ) → command_word c ≡ command_word d → Takes c words numbers
    → Takes d words numbers → c ≡ d
one_taken (Compile i p a) (Compile j q b) words numbers e h k =
    let settings : a ≡ b = one_setting numbers a b h.1 k.1 in
    let names = sym h.0 ∙ k.0 in
    cc
one_taken (Compile i p a) (Check j q) words numbers e h k = cc
one_taken (Compile i p a) (Sample n q b) words numbers e h k = cc
one_taken (Check i p) (Compile j q b) words numbers e h k = cc
one_taken (Check i p) (Check j q) words numbers e h k =
    let names = sym h.0 ∙ k.0 in
    cc
one_taken (Check i p) (Sample n q b) words numbers e h k = cc
one_taken (Sample m p a) (Compile j q b) words numbers e h k = cc
one_taken (Sample m p a) (Check j q) words numbers e h k = cc
one_taken (Sample m p a) (Sample n q b) words numbers e h k =
    let settings : a ≡ b = one_setting numbers a b h.3 k.3 in
    let names = sym h.0 ∙ k.0 in
    let text : decimal m ≡ decimal n = cc in
    let number : m ≡ n = decimal_injective m n (omega (arith, h.2)) (omega (arith, k.2)) text in
    cc

-- a command has two positional words
two_words : (c : CommandValue) (words : List (List ℕ)) (numbers : Setting → List ℕ) → Takes c words numbers → length words ≡ 2
two_words (Compile i p a) words numbers h = ap length h.0
two_words (Check i p) words numbers h = ap length h.0
two_words (Sample m p a) words numbers h = ap length h.0

pub few : (words : List (List ℕ)) (c : CommandValue) (m : Means words c) → AreFew m.pieces
few words c m = let two = two_words c (flat_map positional_in m.pieces) (λ s. flat_map (numbers_in s) m.pieces) m.takes in record { words = omega (arith, two); once = m.once }

at_most_one : (o : Option ℕ) → length (option_to_list o) ≤ 1
at_most_one None = omega arith
at_most_one (Some n) = omega arith

-- words mean the command that what was said means, where no number was said twice
pub means : (all : List (List ℕ)) (word : List ℕ) (rest : List (List ℕ)) (said : Said) (c : CommandValue) → all ≡ word ∷ rest → HasSaid rest said []
    → IsCommand word said c → Means all c
means all word rest said c e read is = record {
  pieces = read.pieces;
  written = e ∙ ap (λ x. x ∷ rest) (sym is.front) ∙ ap (λ x. command_word c ∷ x) (read.written ∙ append-nil (flat_map writing read.pieces));
  each = read.sound;
  once = λ s. once s;
  takes = along c (words_in said.positional) (flat_map positional_in read.pieces) (numbers_said said) (λ s. flat_map (numbers_in s) read.pieces) read.words read.numbers is.takes;
}
  where
    once : (s : Setting) → length (flat_map (numbers_in s) read.pieces) ≤ 1
    once s = subst (λ x. length x ≤ 1) (read.numbers s) (at_most_one (slice_index_or said.numbers (place_of s) None))

-- and only that one
pub meant : (all : List (List ℕ)) (word : List ℕ) (rest : List (List ℕ)) (said : Said) (c : CommandValue) → all ≡ word ∷ rest → HasSaid rest said []
    → Means all c → IsCommand word said c
meant all word rest said c e read m =
    let tails : rest ≡ flat_map writing m.pieces = tail word (command_word c) rest (flat_map writing m.pieces) (sym e ∙ m.written) in
    let front : command_word c ≡ word = sym (head word (command_word c) rest (flat_map writing m.pieces) (sym e ∙ m.written)) in
    let same : m.pieces ≡ read.pieces = one_reading m.pieces read.pieces m.each read.sound (sym tails ∙ read.written ∙ append-nil (flat_map writing read.pieces)) in
    record {
      front = front;
      takes = along c (flat_map positional_in m.pieces) (words_in said.positional) (λ s. flat_map (numbers_in s) m.pieces) (numbers_said said)
          (ap (flat_map positional_in) same ∙ sym read.words) (λ s. ap (flat_map (numbers_in s)) same ∙ sym (read.numbers s)) m.takes;
    }
  where
    head : (v w : List ℕ) (x y : List (List ℕ)) → v ∷ x ≡ w ∷ y → v ≡ w
    head v w x y e = cc

    tail : (v w : List ℕ) (x y : List (List ℕ)) → v ∷ x ≡ w ∷ y → x ≡ y
    tail v w x y e = cc

-- words that can't be read mean no command
pub unread : (all : List (List ℕ)) (word : List ℕ) (rest : List (List ℕ)) → all ≡ word ∷ rest
    → ((pieces : List PieceValue) → AllByRecursion IsPiece pieces → rest ≡ flat_map writing pieces → AreFew pieces → ⊥)
    → (c : CommandValue) → Means all c → ⊥
unread all word rest e none c m = none m.pieces m.each (tail word (command_word c) rest (flat_map writing m.pieces) (sym e ∙ m.written)) (few all c m)
  where
    tail : (v w : List ℕ) (x y : List (List ℕ)) → v ∷ x ≡ w ∷ y → x ≡ y
    tail v w x y e = cc

pub one_meaning : (words : List (List ℕ)) (c d : CommandValue) → Means words c → Means words d → c ≡ d
one_meaning words c d m n =
    let same : m.pieces ≡ n.pieces = one_reading m.pieces n.pieces m.each n.each (tail (command_word c) (command_word d) (flat_map writing m.pieces) (flat_map writing n.pieces) (sym m.written ∙ n.written)) in
    let front : command_word c ≡ command_word d = head (command_word c) (command_word d) (flat_map writing m.pieces) (flat_map writing n.pieces) (sym m.written ∙ n.written) in
    one_taken c d (flat_map positional_in n.pieces) (λ s. flat_map (numbers_in s) n.pieces) front
    (along c (flat_map positional_in m.pieces) (flat_map positional_in n.pieces) (λ s. flat_map (numbers_in s) m.pieces) (λ s. flat_map (numbers_in s) n.pieces)
    (ap (flat_map positional_in) same) (λ s. ap (flat_map (numbers_in s)) same) m.takes)
    n.takes
  where
    head : (v w : List ℕ) (x y : List (List ℕ)) → v ∷ x ≡ w ∷ y → v ≡ w
    head v w x y e = cc

    tail : (v w : List ℕ) (x y : List (List ℕ)) → v ∷ x ≡ w ∷ y → x ≡ y
    tail v w x y e = cc

-- `compile` writes the name that it reads exactly where that is one of the four files
pub same_name : (input prefix : List ℕ) (settings : Settings) → Contains (files_of prefix) input → HasSameName (Compile input prefix settings)
same_name input prefix settings h = (input, here input [], h)

pub other_name : (input prefix : List ℕ) (settings : Settings) → (Contains (files_of prefix) input → ⊥) → HasSameName (Compile input prefix settings) → ⊥
other_name input prefix settings h (name, reads, writes) = by (either input [] name reads)
  where
    by : (input ≡ name) ⊎ Contains [] name → ⊥
    by (inl e) = h (subst (Contains (files_of prefix)) (sym e) writes)
    by (inr k) = none_in name k

-- without settings there is no command that has them
pub no_compile : (said : Said) (c : CommandValue) → IsCommand (codes "compile") said c → ((a : Settings) → AreSettings (numbers_said said) a → ⊥) → ⊥
no_compile said (Compile i p a) is none = none a is.takes.1
no_compile said (Check i p) is none = let e = is.front in cc
no_compile said (Sample n p a) is none = let e = is.front in cc

pub no_sample : (said : Said) (c : CommandValue) → IsCommand (codes "sample") said c → ((a : Settings) → AreSettings (numbers_said said) a → ⊥) → ⊥
no_sample said (Compile i p a) is none = let e = is.front in cc
no_sample said (Check i p) is none = let e = is.front in cc
no_sample said (Sample n p a) is none = none a is.takes.3

-- the answer of a first word's function, carried to the words
pub answers : (all : List (List ℕ)) (word : List ℕ) (rest : List (List ℕ)) (said : Said) (result : Result Command WordsFault) → all ≡ word ∷ rest → HasSaid rest said []
    → IfOk result (λ c. IsCommand word said (command_value c) × (HasSameName (command_value c) → ⊥))
    → IfOk result (λ c. Means all (command_value c) × (HasSameName (command_value c) → ⊥))
answers all word rest said (Ok c) e read h = (means all word rest said (command_value c) e read h.0, h.1)
answers all word rest said (Err f) e read h = tt

pub answers_usage : (all : List (List ℕ)) (word : List ℕ) (rest : List (List ℕ)) (said : Said) → all ≡ word ∷ rest → HasSaid rest said []
    → ((c : CommandValue) → IsCommand word said c → ⊥) → (c : CommandValue) → Means all c → ⊥
answers_usage all word rest said e read none c m = none c (meant all word rest said c e read m)

pub answers_same : (all : List (List ℕ)) (word : List ℕ) (rest : List (List ℕ)) (said : Said) → all ≡ word ∷ rest → HasSaid rest said []
    → ((c : CommandValue) × IsCommand word said c × HasSameName c) → (c : CommandValue) × Means all c × HasSameName c
answers_same all word rest said e read (c, is, same) = (c, means all word rest said c e read is, same)
