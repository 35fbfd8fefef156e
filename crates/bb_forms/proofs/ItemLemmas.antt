-- Items up to the end of a line, one after another.
use Rattle.std.proofs.Common.{◌≡◌, ◌≢◌, ℕ, ◌<◌, ◌≤◌, zero, suc, List, [], ◌∷◌, ◌++◌, length, Option, Some, None, Bool, true, false, eqb, refl, sym, ap, ◌∙◌, arith, append_assoc, length-append, subst}
use Rattle.std.specs.List.{AllByRecursion, prefix_len, flat_map}
use Rattle.std.specs.Char.{is_ascii_digit}
use Rattle.std.specs.Option.{option_map}
use Rattle.std.proofs.lemmas.Bool.Decides.{nat_tests}
use Rattle.std.proofs.lemmas.List.{append-nil}
use Rattle.bb_spell.specs.Front.{◌>>=◌, Fails}
use Rattle.bb_spell.specs.declared.scan.LineFault.{LineFault}
use Rattle.bb_spell.specs.declared.scan.LineFault.TheVariants.{NotCanonical, NoMemory}
use Rattle.bb_spell.proofs.Back.{Back, some_same}
use Rattle.bb_spell.proofs.Shorter.{bind_some}
use Rattle.bb_forms.specs.Reading.{listed_items}

abbrev pub with_items : {A : Type 0} → List A → Option (List A) → Option (List A)
with_items xs read = option_map (λ more. xs ++ more) read

map_some : {A B : Type 0} (f : A → B) (o : Option A) (y : B) → option_map f o ≡ Some y → (x : A) × (o ≡ Some x) × (f x ≡ y)
map_some f None y h = cc
map_some {A} {B} f (Some x) y h = (x, refl, some_same (f x) y h)

module _ {A : Type 0} (item : List ℕ → Option (A × List ℕ)) where
  pub items_end : (most : ℕ) → listed_items item most [] ≡ Some []
  unfolding listed_items
  items_end zero = refl
  items_end (suc most) = refl

  pub items_none : (b : ℕ) (bs : List ℕ) → listed_items item 0 (b ∷ bs) ≡ None
  unfolding listed_items
  items_none b bs =
      let long : eqb (length (b ∷ bs)) 0 ≡ false = grind (arith, nat_tests) in
      rw long refl

  pub items_more : (most b : ℕ) (bs : List ℕ) → listed_items item (suc most) (b ∷ bs) ≡ (item (b ∷ bs) >>= (λ r. option_map (λ items. r.0 ∷ items) (listed_items item most r.1)))
  unfolding listed_items
  items_more most b bs =
      let long : eqb (length (b ∷ bs)) 0 ≡ false = grind (arith, nat_tests) in
      rw long refl

  -- a loop over items
  pub items_start : (o : Option (List A)) → with_items [] o ≡ o
  items_start None = refl
  items_start (Some xs) = refl

  with_two : (xs : List A) (x : A) (o : Option (List A)) → with_items xs (option_map (λ items. x ∷ items) o) ≡ with_items (xs ++ x ∷ []) o
  with_two xs x None = refl
  with_two xs x (Some more) = ap Some (sym (append_assoc xs (x ∷ []) more))

  pub items_last : (xs : List A) (room : ℕ) (rest : List ℕ) (all : Option (List A)) → rest ≡ [] → with_items xs (listed_items item room rest) ≡ all → all ≡ Some xs
  items_last xs room rest all e h = sym h ∙ ap (λ r. with_items xs (listed_items item room r)) e ∙ ap (with_items xs) (items_end room) ∙ ap Some (append-nil xs)

  pub items_full : (xs : List A) (rest : List ℕ) (all : Option (List A)) → rest ≢ [] → with_items xs (listed_items item 0 rest) ≡ all → all ≡ None
  items_full xs [] all e h = absurd (e refl)
  items_full xs (b ∷ bs) all e h = sym h ∙ ap (with_items xs) (items_none b bs)

  pub items_step : (xs new : List A) (x : A) (room : ℕ) (rest tail : List ℕ) (all : Option (List A)) → rest ≢ [] → item rest ≡ Some (x, tail) → new ≡ xs ++ x ∷ [] → with_items xs (listed_items item (suc room) rest) ≡ all → with_items new (listed_items item room tail) ≡ all
  items_step xs new x room [] tail all e s n h = absurd (e refl)
  items_step xs new x room (b ∷ bs) tail all e s n h =
      let one : listed_items item (suc room) (b ∷ bs) ≡ option_map (λ items. x ∷ items) (listed_items item room tail) = items_more room b bs ∙ ap (λ r. r >>= (λ r. option_map (λ items. r.0 ∷ items) (listed_items item room r.1))) s in
      ap (λ z. with_items z (listed_items item room tail)) n ∙ sym (with_two xs x (listed_items item room tail)) ∙ ap (with_items xs) (sym one) ∙ h

  pub items_fail : (e : LineFault) (xs : List A) (room : ℕ) (rest : List ℕ) (all : Option (List A)) → rest ≢ [] → Fails e (item rest) → with_items xs (listed_items item (suc room) rest) ≡ all → Fails e all
  items_fail NoMemory xs room rest all n f h = tt
  items_fail NotCanonical xs room [] all n f h = absurd (n refl)
  items_fail NotCanonical xs room (b ∷ bs) all n f h = sym h ∙ ap (with_items xs) (items_more room b bs ∙ ap (λ r. r >>= (λ r. option_map (λ items. r.0 ∷ items) (listed_items item room r.1))) f)

  -- items that are read were written so
  pub record AreSpelled (fits : A → Type 0) (spell : A → List ℕ) (most : ℕ) (bytes : List ℕ) (xs : List A) : Type 0 where
    pub is : bytes ≡ flat_map spell xs
    pub all : AllByRecursion fits xs
    pub few : length xs ≤ most

  module _ (fits : A → Type 0) (spell : A → List ℕ) where
    pub items_back : ((bytes : List ℕ) (x : A) (rest : List ℕ) → item bytes ≡ Some (x, rest) → Back fits spell bytes x rest) → (most : ℕ) (bytes : List ℕ) (xs : List A) → listed_items item most bytes ≡ Some xs → AreSpelled fits spell most bytes xs
    items_back back most [] xs h =
        let none : [] ≡ xs = some_same [] xs (sym (items_end most) ∙ h) in
        subst (AreSpelled fits spell most []) none (record { is = refl; all = tt; few = omega arith })
    items_back back zero (b ∷ bs) xs h = cc (sym (items_none b bs) ∙ h)
    items_back back (suc most) (b ∷ bs) xs h =
        let one = bind_some (item (b ∷ bs)) _ xs (sym (items_more most b bs) ∙ h) in
        let more = map_some (λ items. one.0.0 ∷ items) (listed_items item most one.0.1) xs one.2 in
        let first = back (b ∷ bs) one.0.0 one.0.1 one.1 in
        let rec = items_back back most one.0.1 more.0 more.1 in
        let whole : AreSpelled fits spell (suc most) (b ∷ bs) (one.0.0 ∷ more.0) = record { is = first.is ∙ ap (λ z. spell one.0.0 ++ z) rec.is; all = (first.ok, rec.all); few = omega (arith, rec.few) } in
        subst (AreSpelled fits spell (suc most) (b ∷ bs)) more.2 whole

    -- and what is written is read
    pub items_again : ((x : A) (rest : List ℕ) → fits x → prefix_len is_ascii_digit rest ≡ 0 → item (spell x ++ rest) ≡ Some (x, rest)) → ((x : A) → (tail : List ℕ) × (spell x ≡ 32 ∷ tail)) → (most : ℕ) (xs : List A) → AllByRecursion fits xs → length xs ≤ most → listed_items item most (flat_map spell xs) ≡ Some xs
    items_again again starts most [] all few = items_end most
    items_again again starts zero (x ∷ xs) all few = absurd (omega arith)
    items_again again starts (suc most) (x ∷ xs) all few =
        let s = starts x in
        let rest : List ℕ = flat_map spell xs in
        let is : spell x ++ rest ≡ 32 ∷ (s.0 ++ rest) = ap (λ z. z ++ rest) s.1 in
        let stops : prefix_len is_ascii_digit rest ≡ 0 = stop starts xs in
        ap (listed_items item (suc most)) is ∙ items_more most 32 (s.0 ++ rest) ∙ ap (λ o. o >>= (λ r. option_map (λ items. r.0 ∷ items) (listed_items item most r.1))) (ap item (sym is) ∙ again x rest all.0 stops)
        ∙ ap (option_map (λ items. x ∷ items)) (items_again again starts most xs all.1 (omega arith))
      where
        stop : ((x : A) → (tail : List ℕ) × (spell x ≡ 32 ∷ tail)) → (xs : List A) → prefix_len is_ascii_digit (flat_map spell xs) ≡ 0
        stop starts [] = refl
        stop starts (x ∷ xs) = ap (λ z. prefix_len is_ascii_digit (z ++ flat_map spell xs)) (starts x).1

    -- there are no more items than bytes
    pub items_few : ((x : A) → (tail : List ℕ) × (spell x ≡ 32 ∷ tail)) → (xs : List A) → length xs ≤ length (flat_map spell xs)
    items_few starts [] = omega arith
    items_few starts (x ∷ xs) = omega (arith, items_few starts xs, ap length (starts x).1, length-append (spell x) (flat_map spell xs))

-- whether anything is left
pub some_left : (rest : List ℕ) (empty : Bool) → empty ≡ eqb (length rest) 0 → empty ≡ false → rest ≢ []
some_left [] empty e f r = cc (sym e ∙ f)
some_left (x ∷ xs) empty e f r = cc r

pub none_left : (rest : List ℕ) (empty : Bool) → empty ≡ eqb (length rest) 0 → empty ≡ true → rest ≡ []
none_left [] empty e f = refl
none_left (x ∷ xs) empty e f =
    let long : eqb (length (x ∷ xs)) 0 ≡ false = grind (arith, nat_tests) in
    cc (sym long ∙ sym e ∙ f)

pub long_left : (rest : List ℕ) → rest ≢ [] → 0 < length rest
long_left [] h = absurd (h refl)
long_left (x ∷ xs) h = omega arith

module _ {A : Type 0} (item : List ℕ → Option (A × List ℕ)) where
  -- one item more, where there is room
  pub items_go : (room : ℕ) (xs new : List A) (x : A) (rest tail : List ℕ) (all : Option (List A)) → 0 < room → rest ≢ [] → item rest ≡ Some (x, tail) → new ≡ xs ++ x ∷ [] → with_items xs (listed_items item room rest) ≡ all → (next : ℕ) × (room ≡ suc next) × (with_items new (listed_items item next tail) ≡ all)
  items_go zero xs new x rest tail all h e s n w = absurd (omega arith)
  items_go (suc room) xs new x rest tail all h e s n w = (room, refl, items_step item xs new x room rest tail all e s n w)

  pub items_stop : (e : LineFault) (room : ℕ) (xs : List A) (rest : List ℕ) (all : Option (List A)) → 0 < room → rest ≢ [] → Fails e (item rest) → with_items xs (listed_items item room rest) ≡ all → Fails e all
  items_stop e zero xs rest all h n f w = absurd (omega arith)
  items_stop e (suc room) xs rest all h n f w = items_fail item e xs room rest all n f w

  pub items_over : (room : ℕ) (xs : List A) (rest : List ℕ) (all : Option (List A)) → room ≡ 0 → rest ≢ [] → with_items xs (listed_items item room rest) ≡ all → all ≡ None
  items_over room xs rest all z n w = items_full item xs rest all n (ap (λ r. with_items xs (listed_items item r rest)) (sym z) ∙ w)
