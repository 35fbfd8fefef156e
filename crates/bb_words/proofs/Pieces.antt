-- Words are pieces in one way at most.
use Rattle.std.proofs.Common.{◌≡◌, ◌⊎◌, ℕ, ◌<◌, ◌≤◌, ◌^◌, ◌==◌, List, [], ◌∷◌, ◌++◌, length, codes, decimal, refl, sym, ◌∙◌, ap, append_assoc, arith, inl, inr, if◌then◌else◌}
use Rattle.std.specs.List.{AllByRecursion, flat_map, position_or_len, before_first, after_first}
use Rattle.std.specs.Str.{bytes_eq}
use Rattle.std.proofs.lemmas.Fmt.{decimal_injective}
use Rattle.bb_words.specs.declared.setting.Setting.{Setting}
use Rattle.bb_words.specs.declared.setting.Setting.TheVariants.{Width, MinDegree, MaxDegree, MaxCycles, Register}
use Rattle.bb_words.specs.Options.{row_of, place_of, IsInRange}
use Rattle.bb_words.specs.Calls.{PieceValue, Positional, Apart, Joined, IsPiece, writing}

-- the setting of a name, and that of a place
setting_by : List ℕ → Setting
setting_by name = if bytes_eq name (codes "width") then Width else (if bytes_eq name (codes "min-degree") then MinDegree
    else (if bytes_eq name (codes "max-degree") then MaxDegree else (if bytes_eq name (codes "max-cycles") then MaxCycles else Register)))

by-name : (s : Setting) → setting_by (row_of s).name ≡ s
unfolding setting_by
by-name Width = refl
by-name MinDegree = refl
by-name MaxDegree = refl
by-name MaxCycles = refl
by-name Register = refl

setting_at : ℕ → Setting
setting_at place = if place == 0 then Width else (if place == 1 then MinDegree else (if place == 2 then MaxDegree else (if place == 3 then MaxCycles else Register)))

at-place : (s : Setting) → setting_at (place_of s) ≡ s
unfolding setting_at
at-place Width = refl
at-place MinDegree = refl
at-place MaxDegree = refl
at-place MaxCycles = refl
at-place Register = refl

pub one_name : (s t : Setting) → (row_of s).name ≡ (row_of t).name → s ≡ t
one_name s t e = sym (by-name s) ∙ ap setting_by e ∙ by-name t

pub one_place : (s t : Setting) → place_of s ≡ place_of t → s ≡ t
one_place s t e = sym (at-place s) ∙ ap setting_at e ∙ at-place t

-- numbers that options take are positive and have 41 bits at most
pub small : (s : Setting) (n : ℕ) → IsInRange s n → (0 < n) × (n < 2 ^ 64)
small Width n h = (omega (arith, h), omega (arith, h))
small MinDegree n h = (omega (arith, h), omega (arith, h))
small MaxDegree n h = (omega (arith, h), omega (arith, h))
small MaxCycles n h = (omega (arith, h), omega (arith, h))
small Register n h = (omega (arith, h), omega (arith, h))

-- a text of a number out of range is none of a number in range
pub outside : (s : Setting) (k n least most : ℕ) (text : List ℕ) → least ≡ (row_of s).least → most ≡ (row_of s).most
    → (k < least) ⊎ ((least ≤ k) × (most < k)) → text ≡ decimal k → k < 2 ^ 64 → IsInRange s n → text ≡ decimal n → ⊥
outside s k n least most text el em (inl h) ek sk range en =
    let same : k ≡ n = decimal_injective k n sk (small s n range).1 (sym ek ∙ en) in
    omega (arith, range.0)
outside s k n least most text el em (inr h) ek sk range en =
    let same : k ≡ n = decimal_injective k n sk (small s n range).1 (sym ek ∙ en) in
    omega (arith, range.1, h.1)

-- the name of an option has no `=`
pub no_equals : (s : Setting) → position_or_len (λ b. b == 61) (row_of s).name ≡ length (row_of s).name
no_equals Width = refl
no_equals MinDegree = refl
no_equals MaxDegree = refl
no_equals MaxCycles = refl
no_equals Register = refl

-- so what is joined to it stands behind the first
pub first_equals : (s : Setting) (text : List ℕ) → position_or_len (λ b. b == 61) ((row_of s).name ++ 61 ∷ text) < length ((row_of s).name ++ 61 ∷ text)
first_equals Width text = omega arith
first_equals MinDegree text = omega arith
first_equals MaxDegree text = omega arith
first_equals MaxCycles text = omega arith
first_equals Register text = omega arith

pub before_equals : (s : Setting) (text : List ℕ) → before_first (λ b. b == 61) ((row_of s).name ++ 61 ∷ text) ≡ (row_of s).name
before_equals Width text = refl
before_equals MinDegree text = refl
before_equals MaxDegree text = refl
before_equals MaxCycles text = refl
before_equals Register text = refl

pub after_equals : (s : Setting) (text : List ℕ) → after_first (λ b. b == 61) ((row_of s).name ++ 61 ∷ text) ≡ text
after_equals Width text = refl
after_equals MinDegree text = refl
after_equals MaxDegree text = refl
after_equals MaxCycles text = refl
after_equals Register text = refl

-- a name is no joined option
pub not_joined : (s t : Setting) (text : List ℕ) → (row_of s).name ≡ (row_of t).name ++ 61 ∷ text → ⊥
not_joined s t text e =
    let none : position_or_len (λ b. b == 61) ((row_of t).name ++ 61 ∷ text) ≡ length ((row_of t).name ++ 61 ∷ text) = rw e at (no_equals s) in
    omega (arith, first_equals t text, none)

-- words begin with one piece at most
pub one_piece : (p q : PieceValue) (r u : List (List ℕ)) → IsPiece p → IsPiece q → writing p ++ r ≡ writing q ++ u → (p ≡ q) × (r ≡ u)
one_piece (Positional v) (Positional w) r u hp hq e = (cc, cc)
one_piece (Positional []) (Apart t m) r u hp hq e = absurd hp
one_piece (Positional (b ∷ v)) (Apart t m) r u hp hq e = absurd (hp (cc))
one_piece (Positional []) (Joined t m) r u hp hq e = absurd hp
one_piece (Positional (b ∷ v)) (Joined t m) r u hp hq e = absurd (hp (cc))
one_piece (Apart s n) (Positional []) r u hp hq e = absurd hq
one_piece (Apart s n) (Positional (b ∷ v)) r u hp hq e = absurd (hq (cc))
one_piece (Joined s n) (Positional []) r u hp hq e = absurd hq
one_piece (Joined s n) (Positional (b ∷ v)) r u hp hq e = absurd (hq (cc))
one_piece (Apart s n) (Apart t m) r u hp hq e =
    let name : (row_of s).name ≡ (row_of t).name = cc in
    let text : decimal n ≡ decimal m = cc in
    let setting : s ≡ t = one_name s t name in
    let number : n ≡ m = decimal_injective n m (small s n hp).1 (small t m hq).1 text in
    (cc, cc)
one_piece (Apart s n) (Joined t m) r u hp hq e = absurd (not_joined s t (decimal m) (cc))
one_piece (Joined s n) (Apart t m) r u hp hq e = absurd (not_joined t s (decimal n) (cc))
one_piece (Joined s n) (Joined t m) r u hp hq e =
    let option : (row_of s).name ++ 61 ∷ decimal n ≡ (row_of t).name ++ 61 ∷ decimal m = cc in
    let name : (row_of s).name ≡ (row_of t).name = sym (before_equals s (decimal n)) ∙ ap (before_first (λ b. b == 61)) option ∙ before_equals t (decimal m) in
    let text : decimal n ≡ decimal m = sym (after_equals s (decimal n)) ∙ ap (after_first (λ b. b == 61)) option ∙ after_equals t (decimal m) in
    let setting : s ≡ t = one_name s t name in
    let number : n ≡ m = decimal_injective n m (small s n hp).1 (small t m hq).1 text in
    (cc, cc)

-- a piece has a word
pub some_word : (p : PieceValue) (r : List (List ℕ)) → writing p ++ r ≡ [] → ⊥
some_word (Positional w) r e = cc
some_word (Apart s n) r e = cc
some_word (Joined s n) r e = cc

pub all_append : {X : Type 0} (P : X → Type 0) (xs ys : List X) → AllByRecursion P xs → AllByRecursion P ys → AllByRecursion P (xs ++ ys)
all_append P [] ys h k = k
all_append P (x ∷ xs) ys h k = (h.0, all_append P xs ys h.1 k)

-- pieces that begin as others do
pub record GoOn (done : List PieceValue) (rest : List (List ℕ)) (pieces : List PieceValue) : Type 0 where
  pub more : List PieceValue
  pub both : pieces ≡ done ++ more
  pub sound : AllByRecursion IsPiece more
  pub written : flat_map writing more ≡ rest

pub go_on : (done : List PieceValue) (rest : List (List ℕ)) (pieces : List PieceValue) → AllByRecursion IsPiece done → AllByRecursion IsPiece pieces
    → flat_map writing pieces ≡ flat_map writing done ++ rest → GoOn done rest pieces
go_on [] rest pieces hd hp e = record { more = pieces; both = refl; sound = hp; written = e }
go_on (d ∷ ds) rest [] hd hp e = absurd (some_word d (flat_map writing ds ++ rest) (sym (e ∙ append_assoc (writing d) (flat_map writing ds) rest)))
go_on (d ∷ ds) rest (p ∷ ps) hd hp e =
    let one = one_piece p d (flat_map writing ps) (flat_map writing ds ++ rest) hp.0 hd.0 (e ∙ append_assoc (writing d) (flat_map writing ds) rest) in
    let go = go_on ds rest ps hd.1 hp.1 one.1 in
    record { more = go.more; both = along p d ps ds go.more one.0 go.both; sound = go.sound; written = go.written }
  where
    along : (p d : PieceValue) (ps ds more : List PieceValue) → p ≡ d → ps ≡ ds ++ more → p ∷ ps ≡ (d ∷ ds) ++ more
    along p d ps ds more e f = cc

-- words that are pieces are so in one way
pub one_reading : (ps qs : List PieceValue) → AllByRecursion IsPiece ps → AllByRecursion IsPiece qs → flat_map writing ps ≡ flat_map writing qs → ps ≡ qs
one_reading [] [] hp hq e = refl
one_reading [] (q ∷ qs) hp hq e = absurd (some_word q (flat_map writing qs) (sym e))
one_reading (p ∷ ps) [] hp hq e = absurd (some_word p (flat_map writing ps) e)
one_reading (p ∷ ps) (q ∷ qs) hp hq e =
    let one = one_piece p q (flat_map writing ps) (flat_map writing qs) hp.0 hq.0 e in
    both p q ps qs one.0 (one_reading ps qs hp.1 hq.1 one.1)
  where
    both : (p q : PieceValue) (ps qs : List PieceValue) → p ≡ q → ps ≡ qs → p ∷ ps ≡ q ∷ qs
    both p q ps qs e f = cc
