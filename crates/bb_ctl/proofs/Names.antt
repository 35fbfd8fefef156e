-- Each added net has a name of its own, which no text has: the front before its digits and the number that they write tell which it is.
use Rattle.std.proofs.Common.{◌≡◌, ℕ, ◌+◌, ◌<◌, ◌%◌, ◌^◌, ◌++◌, ◌&&◌, List, [], ◌∷◌, codes, decimal, nat_le, Bool, true, false, not, Option, None, Some, refl, sym, ap, subst, ◌∙◌, arith, if◌then◌else◌, IfSome}
use Rattle.std.proofs.lemmas.Fmt.{decimal_by_steps, decimal_injective}
use Rattle.std.proofs.lemmas.Bool.Decides.{nat_tests}
use Rattle.std.proofs.lemmas.Option.{same_Some}
use Rattle.std.specs.List.{list_all}
use Rattle.std.specs.Str.{bytes_eq}
use Rattle.bb_base.specs.OwnNames.{is_reserved, made_name}
use Rattle.bb_terms.specs.declared.wire.Wire.{Wire}
use Rattle.bb_terms.specs.declared.wire.Wire.TheVariants.{Kept, Test, Init, So, Done, NotInit, NotTest, Go, NotGo, Parity, Low, Feed, Word, WordNext, Wrap, Phase, PhaseTurned, PhaseNext, Advance, NotAdvance, Ring, RingKept, RingMoved, RingOr, RingNext, NotOver, Live, NotPhase, Running, Shifting, On, Compacts, Latches, Takes, Off, Codes, Feedback, Signed, Carried, First, Line, Chain, Code, Coded, Next, InTest, InNormal, Read, Held}
use Rattle.bb_terms.specs.Wires.{wire_label, with_number, symbol_name, IsAdded}

abbrev is_digit : ℕ → Bool
is_digit b = nat_le 48 b && nat_le b 57

-- a text before its first digit, and from there on
abbrev letters : List ℕ → List ℕ
letters [] = []
letters (b ∷ bs) = if is_digit b then [] else b ∷ letters bs

abbrev figures : List ℕ → List ℕ
figures [] = []
figures (b ∷ bs) = if is_digit b then b ∷ bs else figures bs

-- the text begins with a digit
abbrev begins : List ℕ → Bool
begins [] = false
begins (b ∷ bs) = is_digit b

begins_push : (ds : List ℕ) (d : ℕ) → begins ds ≡ true → begins (ds ++ d ∷ []) ≡ true
begins_push [] d h = cc
begins_push (b ∷ bs) d h = h

-- a number's digits are such a text
decimal_begins : (n : ℕ) → n < 2 ^ 64 → begins (decimal n) ≡ true
decimal_begins n small = decimal_by_steps (λ k ds. begins ds ≡ true) (λ k one. grind (arith, nat_tests, one)) (λ k ds ten h. begins_push ds (48 + k % 10) h) n small

parts_of : (text : List ℕ) → begins text ≡ true → (letters text ≡ []) × (figures text ≡ text)
parts_of [] h = cc
parts_of (b ∷ bs) h = ((λ i. if h i then [] else b ∷ letters bs), (λ i. if h i then b ∷ bs else figures bs))

-- letters and then digits
front_of : (front text : List ℕ) → list_all (λ b. not (is_digit b)) front ≡ true → begins text ≡ true → (letters (front ++ text) ≡ front) × (figures (front ++ text) ≡ text)
front_of [] text plain h = parts_of text h
front_of (b ∷ bs) text plain h = by (is_digit b) refl plain (λ more. front_of bs text more h)
  where
    by : (t : Bool) → is_digit b ≡ t → (not t && list_all (λ c. not (is_digit c)) bs) ≡ true → (list_all (λ c. not (is_digit c)) bs ≡ true → (letters (bs ++ text) ≡ bs) × (figures (bs ++ text) ≡ text))
        → ((if t then [] else b ∷ letters (bs ++ text)) ≡ b ∷ bs) × ((if t then b ∷ (bs ++ text) else figures (bs ++ text)) ≡ text)
    by true e p rest = cc
    by false e p rest = (ap (λ xs. b ∷ xs) (rest p).0, (rest p).1)

letters_alone : (front : List ℕ) → list_all (λ b. not (is_digit b)) front ≡ true → (letters front ≡ front) × (figures front ≡ [])
letters_alone [] plain = (refl, refl)
letters_alone (b ∷ bs) plain = by (is_digit b) refl plain (letters_alone bs)
  where
    by : (t : Bool) → is_digit b ≡ t → (not t && list_all (λ c. not (is_digit c)) bs) ≡ true → (list_all (λ c. not (is_digit c)) bs ≡ true → (letters bs ≡ bs) × (figures bs ≡ []))
        → ((if t then [] else b ∷ letters bs) ≡ b ∷ bs) × ((if t then b ∷ bs else figures bs) ≡ [])
    by true e p rest = cc
    by false e p rest = (ap (λ xs. b ∷ xs) (rest p).0, (rest p).1)

-- a name's front and its digits
abbrev digits_in : Option ℕ → List ℕ
digits_in None = []
digits_in (Some number) = decimal number

split_name : (front : List ℕ) (number : Option ℕ) → list_all (λ b. not (is_digit b)) front ≡ true → IfSome number (λ n. n < 2 ^ 32) → (letters (with_number front number) ≡ front) × (figures (with_number front number) ≡ digits_in number)
split_name front None plain small = letters_alone front plain
split_name front (Some number) plain small = front_of front (decimal number) plain (decimal_begins number (omega (arith, small)))

-- digits are those of one number
same_number : (a b : Option ℕ) → IfSome a (λ n. n < 2 ^ 32) → IfSome b (λ n. n < 2 ^ 32) → digits_in a ≡ digits_in b → a ≡ b
same_number None None low high e = refl
same_number None (Some n) low high e = absurd (cc (sym (decimal_begins n (omega (arith, high))) ∙ ap begins (sym e)))
same_number (Some m) None low high e = absurd (cc (sym (decimal_begins m (omega (arith, low))) ∙ ap begins e))
same_number (Some m) (Some n) low high e = ap Some (decimal_injective m n (omega (arith, low)) (omega (arith, high)) e)

-- no front has a digit
plain_front : (w : Wire) → list_all (λ b. not (is_digit b)) (wire_label w).0 ≡ true
plain_front (Kept net) = refl
plain_front Test = refl
plain_front Init = refl
plain_front So = refl
plain_front Done = refl
plain_front NotInit = refl
plain_front NotTest = refl
plain_front Go = refl
plain_front NotGo = refl
plain_front Parity = refl
plain_front Low = refl
plain_front Feed = refl
plain_front (Word i) = refl
plain_front (WordNext i) = refl
plain_front Wrap = refl
plain_front Phase = refl
plain_front PhaseTurned = refl
plain_front PhaseNext = refl
plain_front Advance = refl
plain_front NotAdvance = refl
plain_front (Ring s) = refl
plain_front (RingKept s) = refl
plain_front (RingMoved s) = refl
plain_front (RingOr s) = refl
plain_front (RingNext s) = refl
plain_front NotOver = refl
plain_front Live = refl
plain_front NotPhase = refl
plain_front Running = refl
plain_front Shifting = refl
plain_front (On r) = refl
plain_front (Compacts r) = refl
plain_front (Latches r) = refl
plain_front (Takes r) = refl
plain_front (Off r) = refl
plain_front (Codes r) = refl
plain_front (Feedback r) = refl
plain_front (Signed r) = refl
plain_front (Carried r) = refl
plain_front (First r) = refl
plain_front (Line i) = refl
plain_front (Chain i) = refl
plain_front (Code i) = refl
plain_front (Coded i) = refl
plain_front (Next i) = refl
plain_front (InTest i) = refl
plain_front (InNormal i) = refl
plain_front (Read i) = refl
plain_front (Held i) = refl

-- its number, where it has one
pub small_number : (w : Wire) → IsAdded w → IfSome (wire_label w).1 (λ number. number < 2 ^ 32)
small_number (Kept net) h = absurd h
small_number Test h = h
small_number Init h = h
small_number So h = h
small_number Done h = h
small_number NotInit h = h
small_number NotTest h = h
small_number Go h = h
small_number NotGo h = h
small_number Parity h = h
small_number Low h = h
small_number Feed h = h
small_number (Word i) h = h
small_number (WordNext i) h = h
small_number Wrap h = h
small_number Phase h = h
small_number PhaseTurned h = h
small_number PhaseNext h = h
small_number Advance h = h
small_number NotAdvance h = h
small_number (Ring s) h = h
small_number (RingKept s) h = h
small_number (RingMoved s) h = h
small_number (RingOr s) h = h
small_number (RingNext s) h = h
small_number NotOver h = h
small_number Live h = h
small_number NotPhase h = h
small_number Running h = h
small_number Shifting h = h
small_number (On r) h = h
small_number (Compacts r) h = h
small_number (Latches r) h = h
small_number (Takes r) h = h
small_number (Off r) h = h
small_number (Codes r) h = h
small_number (Feedback r) h = h
small_number (Signed r) h = h
small_number (Carried r) h = h
small_number (First r) h = h
small_number (Line i) h = h
small_number (Chain i) h = h
small_number (Code i) h = h
small_number (Coded i) h = h
small_number (Next i) h = h
small_number (InTest i) h = h
small_number (InNormal i) h = h
small_number (Read i) h = h
small_number (Held i) h = h

-- the added nets of a number, and that of these with a front
abbrev numbered : ℕ → List Wire
numbered i =
    Test ∷ Init ∷ So ∷ Done ∷ NotInit ∷ NotTest ∷ Go ∷ NotGo ∷ Parity ∷ Low ∷ Feed ∷ Word i ∷ WordNext i ∷ Wrap ∷ Phase ∷ PhaseTurned ∷ PhaseNext ∷ Advance ∷ NotAdvance ∷ Ring i ∷ RingKept i ∷ RingMoved i ∷ RingOr i ∷ RingNext i ∷ NotOver ∷ Live ∷ NotPhase ∷ Running ∷ Shifting ∷ On i ∷ Compacts i ∷ Latches i ∷ Takes i ∷ Off i ∷ Codes i ∷ Feedback i ∷ Signed i ∷ Carried i ∷ First i ∷ Line i ∷ Chain i ∷ Code i ∷ Coded i ∷ Next i ∷ InTest i ∷ InNormal i ∷ Read i ∷ Held i ∷ []

abbrev with_front : List ℕ → List Wire → Option Wire
with_front front [] = None
with_front front (w ∷ ws) = if bytes_eq front (wire_label w).0 then Some w else with_front front ws

abbrev number_in : Option ℕ → ℕ
number_in None = 0
number_in (Some number) = number

-- a label is that of one added net
found_again : (w : Wire) → IsAdded w → with_front (wire_label w).0 (numbered (number_in (wire_label w).1)) ≡ Some w
found_again (Kept net) h = absurd h
found_again Test h = refl
found_again Init h = refl
found_again So h = refl
found_again Done h = refl
found_again NotInit h = refl
found_again NotTest h = refl
found_again Go h = refl
found_again NotGo h = refl
found_again Parity h = refl
found_again Low h = refl
found_again Feed h = refl
found_again (Word i) h = refl
found_again (WordNext i) h = refl
found_again Wrap h = refl
found_again Phase h = refl
found_again PhaseTurned h = refl
found_again PhaseNext h = refl
found_again Advance h = refl
found_again NotAdvance h = refl
found_again (Ring s) h = refl
found_again (RingKept s) h = refl
found_again (RingMoved s) h = refl
found_again (RingOr s) h = refl
found_again (RingNext s) h = refl
found_again NotOver h = refl
found_again Live h = refl
found_again NotPhase h = refl
found_again Running h = refl
found_again Shifting h = refl
found_again (On r) h = refl
found_again (Compacts r) h = refl
found_again (Latches r) h = refl
found_again (Takes r) h = refl
found_again (Off r) h = refl
found_again (Codes r) h = refl
found_again (Feedback r) h = refl
found_again (Signed r) h = refl
found_again (Carried r) h = refl
found_again (First r) h = refl
found_again (Line i) h = refl
found_again (Chain i) h = refl
found_again (Code i) h = refl
found_again (Coded i) h = refl
found_again (Next i) h = refl
found_again (InTest i) h = refl
found_again (InNormal i) h = refl
found_again (Read i) h = refl
found_again (Held i) h = refl

-- different added nets have different names
pub names_differ : (v w : Wire) → IsAdded v → IsAdded w → symbol_name v ≡ symbol_name w → v ≡ w
names_differ v w hv hw e =
    let one = split_name (wire_label v).0 (wire_label v).1 (plain_front v) (small_number v hv) in
    let two = split_name (wire_label w).0 (wire_label w).1 (plain_front w) (small_number w hw) in
    let front : (wire_label v).0 ≡ (wire_label w).0 = sym one.0 ∙ ap letters e ∙ two.0 in
    let number : (wire_label v).1 ≡ (wire_label w).1 = same_number (wire_label v).1 (wire_label w).1 (small_number v hv) (small_number w hw) (sym one.1 ∙ ap figures e ∙ two.1) in
    same_Some v w (sym (found_again v hv) ∙ (λ i. with_front (front i) (numbered (number_in (number i)))) ∙ found_again w hw)

-- an added net's name is reserved, and its front isn't that of made names
fronts : (w : Wire) → IsAdded w → (is_reserved (symbol_name w) ≡ true) × (bytes_eq (wire_label w).0 (codes "bt_w") ≡ false)
fronts (Kept net) h = absurd h
fronts Test h = (refl, refl)
fronts Init h = (refl, refl)
fronts So h = (refl, refl)
fronts Done h = (refl, refl)
fronts NotInit h = (refl, refl)
fronts NotTest h = (refl, refl)
fronts Go h = (refl, refl)
fronts NotGo h = (refl, refl)
fronts Parity h = (refl, refl)
fronts Low h = (refl, refl)
fronts Feed h = (refl, refl)
fronts Wrap h = (refl, refl)
fronts Phase h = (refl, refl)
fronts PhaseTurned h = (refl, refl)
fronts PhaseNext h = (refl, refl)
fronts Advance h = (refl, refl)
fronts NotAdvance h = (refl, refl)
fronts NotOver h = (refl, refl)
fronts Live h = (refl, refl)
fronts NotPhase h = (refl, refl)
fronts Running h = (refl, refl)
fronts Shifting h = (refl, refl)
fronts (Word i) h = (refl, refl)
fronts (WordNext i) h = (refl, refl)
fronts (Ring i) h = (refl, refl)
fronts (RingKept i) h = (refl, refl)
fronts (RingMoved i) h = (refl, refl)
fronts (RingOr i) h = (refl, refl)
fronts (RingNext i) h = (refl, refl)
fronts (On i) h = (refl, refl)
fronts (Compacts i) h = (refl, refl)
fronts (Latches i) h = (refl, refl)
fronts (Takes i) h = (refl, refl)
fronts (Off i) h = (refl, refl)
fronts (Codes i) h = (refl, refl)
fronts (Feedback i) h = (refl, refl)
fronts (Signed i) h = (refl, refl)
fronts (Carried i) h = (refl, refl)
fronts (First i) h = (refl, refl)
fronts (Line i) h = (refl, refl)
fronts (Chain i) h = (refl, refl)
fronts (Code i) h = (refl, refl)
fronts (Coded i) h = (refl, refl)
fronts (Next i) h = (refl, refl)
fronts (InTest i) h = (refl, refl)
fronts (InNormal i) h = (refl, refl)
fronts (Read i) h = (refl, refl)
fronts (Held i) h = (refl, refl)

pub added_reserved : (w : Wire) → IsAdded w → is_reserved (symbol_name w) ≡ true
added_reserved w h = (fronts w h).0

-- no added net has a made name
pub never_made : (w : Wire) (k : ℕ) → IsAdded w → k < 2 ^ 32 → symbol_name w ≡ made_name k → ⊥
never_made w k h small e =
    let one = split_name (wire_label w).0 (wire_label w).1 (plain_front w) (small_number w h) in
    let two = front_of (codes "bt_w") (decimal k) refl (decimal_begins k (omega (arith, small))) in
    let front : (wire_label w).0 ≡ codes "bt_w" = sym one.0 ∙ ap letters e ∙ two.0 in
    let same : bytes_eq (codes "bt_w") (codes "bt_w") ≡ false = subst (λ x. bytes_eq x (codes "bt_w") ≡ false) front (fronts w h).1 in
    cc same
