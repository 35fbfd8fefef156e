-- What was read so far of the words of a call: from the start, by one more piece, and where no command may go on so.
use Rattle.std.proofs.Common.{Bool, true, false, ◌==◌, if◌then◌else◌, map, subst, ◌≡◌, ◌≢◌, ◌⊎◌, ℕ, ◌<◌, ◌≤◌, List, [], ◌∷◌, ◌++◌, length, refl, sym, ◌∙◌, ap, append_assoc, arith, inl, inr, length-append}
use Rattle.std.specs.List.{AllByRecursion, flat_map}
use Rattle.std.proofs.lemmas.Bool.Decides.{Decides-eqb}
use Rattle.std.proofs.lemmas.List.{flat_map_more}
use Rattle.std.proofs.lemmas.List.Concat.{flat_map-append}
use Rattle.bb_words.specs.declared.setting.Setting.{Setting}
use Rattle.bb_words.specs.declared.piece.Piece.{Piece}
use Rattle.bb_words.specs.declared.said.Said.{Said}
use Rattle.bb_words.specs.Options.{place_of, IsInRange}
use Rattle.bb_words.specs.Calls.{PieceValue, Positional, Apart, Joined, IsPiece, writing, positional_in, numbers_in}
use Rattle.bb_words.specs.Parts.{plain_words, numbers_by, words_in, numbers_said, IsFirstPiece, HasSaid, AreAllowed, AreFew}
use Rattle.bb_words.proofs.Pieces.{go_on, one_place, one_piece, some_word, all_append}

pub start : (all : List (List ℕ)) (said : Said) → words_in said.positional ≡ [] → ((s : Setting) → numbers_said said s ≡ []) → HasSaid all said all
start all said words numbers = record { pieces = []; sound = tt; written = refl; words = words; numbers = numbers }

-- one more piece
pub step : (all words rest : List (List ℕ)) (said next : Said) (piece : Piece) → HasSaid all said words → IsFirstPiece words piece rest
    → words_in next.positional ≡ words_in said.positional ++ plain_words piece
    → ((s : Setting) → numbers_said next s ≡ numbers_said said s ++ numbers_by piece s) → HasSaid all next rest
step all words rest said next piece read first word numbers = record {
  pieces = read.pieces ++ first.value ∷ [];
  sound = all_append IsPiece read.pieces (first.value ∷ []) read.sound (first.sound, tt);
  written = read.written ∙ ap (λ x. flat_map writing read.pieces ++ x) first.written ∙ sym (append_assoc (flat_map writing read.pieces) (writing first.value) rest)
      ∙ ap (λ x. x ++ rest) (flat_map_more writing [] read.pieces first.value);
  words = word ∙ ap (λ x. x ++ plain_words piece) read.words ∙ ap (λ x. flat_map positional_in read.pieces ++ x) (sym first.word)
      ∙ flat_map_more positional_in [] read.pieces first.value;
  numbers = λ s. numbers s ∙ ap (λ x. x ++ numbers_by piece s) (read.numbers s) ∙ ap (λ x. flat_map (numbers_in s) read.pieces ++ x) (sym (first.numbers s))
      ∙ flat_map_more (numbers_in s) [] read.pieces first.value;
}

-- words that are left begin with no piece
pub stop_none : (all words : List (List ℕ)) (said : Said) → HasSaid all said words → 0 < length words
    → ((value : PieceValue) (rest : List (List ℕ)) → IsPiece value → words ≢ writing value ++ rest)
    → (pieces : List PieceValue) → AllByRecursion IsPiece pieces → all ≡ flat_map writing pieces → AreFew pieces → ⊥
stop_none all words said read some none pieces sound written few =
    let more = go_on read.pieces words pieces read.sound sound (sym written ∙ read.written) in
    by more.more more.sound more.written
  where
    by : (more : List PieceValue) → AllByRecursion IsPiece more → flat_map writing more ≡ words → ⊥
    by [] s e = omega (arith, ap length e)
    by (q ∷ qs) s e = none q (flat_map writing qs) s.0 (sym e)

-- a flat list is as long as that of its front at least
longer : {X : Type 0} (f : PieceValue → List X) (done : List PieceValue) (q : PieceValue) (qs : List PieceValue)
    → length (flat_map f done ++ f q) ≤ length (flat_map f (done ++ q ∷ qs))
longer f done q qs =
    let all = ap length (flat_map-append f done (q ∷ qs)) in
    omega (arith, all, length-append (flat_map f done) (f q), length-append (flat_map f done) (f q ++ flat_map f qs), length-append (f q) (flat_map f qs))

-- the next piece is one too many
pub stop_full : (all words rest : List (List ℕ)) (said : Said) (piece : Piece) → HasSaid all said words → IsFirstPiece words piece rest
    → (2 < length (words_in said.positional ++ plain_words piece)) ⊎ ((s : Setting) × (1 < length (numbers_said said s ++ numbers_by piece s)))
    → (pieces : List PieceValue) → AllByRecursion IsPiece pieces → all ≡ flat_map writing pieces → AreFew pieces → ⊥
stop_full all words rest said piece read first full pieces sound written few =
    let more = go_on read.pieces words pieces read.sound sound (sym written ∙ read.written) in
    by more.more more.sound more.written more.both full
  where
    by : (more : List PieceValue) → AllByRecursion IsPiece more → flat_map writing more ≡ words → pieces ≡ read.pieces ++ more
        → (2 < length (words_in said.positional ++ plain_words piece)) ⊎ ((s : Setting) × (1 < length (numbers_said said s ++ numbers_by piece s))) → ⊥
    by [] s e both full = some_word first.value rest (sym (e ∙ first.written))
    by (q ∷ qs) s e both (inl h) =
        let one = one_piece q first.value (flat_map writing qs) rest s.0 first.sound (e ∙ first.written) in
        let long = longer positional_in read.pieces q qs in
        let here : words_in said.positional ++ plain_words piece ≡ flat_map positional_in read.pieces ++ positional_in q =
        ap (λ x. x ++ plain_words piece) read.words ∙ ap (λ x. flat_map positional_in read.pieces ++ x) (sym (ap positional_in one.0 ∙ first.word)) in
        omega (arith, long, ap length here, h, few.words, ap (λ x. length (flat_map positional_in x)) both)
    by (q ∷ qs) s e both (inr h) =
        let one = one_piece q first.value (flat_map writing qs) rest s.0 first.sound (e ∙ first.written) in
        let long = longer (numbers_in h.0) read.pieces q qs in
        let here : numbers_said said h.0 ++ numbers_by piece h.0 ≡ flat_map (numbers_in h.0) read.pieces ++ numbers_in h.0 q =
        ap (λ x. x ++ numbers_by piece h.0) (read.numbers h.0)
        ∙ ap (λ x. flat_map (numbers_in h.0) read.pieces ++ x) (sym (ap (numbers_in h.0) one.0 ∙ first.numbers h.0)) in
        omega (arith, long, ap length here, h.1, few.once h.0, ap (λ x. length (flat_map (numbers_in h.0) x)) both)

pub some_left : {A B : Type 0} (f : A → B) (xs : List A) (b : Bool) → b ≡ (length xs == 0) → b ≡ false → 0 < length (map f xs)
some_left f [] b e h = cc
some_left f (x ∷ xs) b e h = omega arith

-- numbers of pieces are in range
pub in_range : (all rest : List (List ℕ)) (said : Said) → HasSaid all said rest → AreAllowed said
in_range all rest said read s = subst (AllByRecursion (IsInRange s)) (sym (read.numbers s)) (by read.pieces read.sound)
  where
    either : (t : Setting) (n : ℕ) → IsInRange t n → (b : Bool) → (place_of s == place_of t) ≡ b → AllByRecursion (IsInRange s) (if b then n ∷ [] else [])
    either t n range true e = let same : t ≡ s = one_place t s (sym ((Decides-eqb (place_of s) (place_of t)).0 e)) in (subst (λ x. IsInRange x n) same range, tt)
    either t n range false e = tt

    one : (p : PieceValue) → IsPiece p → AllByRecursion (IsInRange s) (numbers_in s p)
    one (Positional w) h = tt
    one (Apart t n) h = either t n h (place_of s == place_of t) refl
    one (Joined t n) h = either t n h (place_of s == place_of t) refl

    by : (ps : List PieceValue) → AllByRecursion IsPiece ps → AllByRecursion (IsInRange s) (flat_map (numbers_in s) ps)
    by [] h = tt
    by (p ∷ ps) h = all_append (IsInRange s) (numbers_in s p) (flat_map (numbers_in s) ps) (one p h.0) (by ps h.1)
