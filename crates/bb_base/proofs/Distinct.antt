-- Lists no two of whose items are equal.
use Rattle.std.proofs.Common.{◌≡◌, ◌≢◌, ℕ, ◌<◌, ◌≤◌, List, [], ◌∷◌, length, map, AllPairs, get_or, Bool, true, false, nat_lt, refl, sym, arith, eqb, Decides, if◌then◌else◌, ap}
use Rattle.std.proofs.lemmas.Bool.Decides.{nat_tests, Decides-eqb}
use Rattle.std.specs.List.{AllByRecursion, list_any}
use Rattle.bb_base.proofs.Lists.{both_map}
use Rattle.std.proofs.lemmas.Map.Made.{IsDistinct-from_AllPairs}
use Rattle.std.proofs.lemmas.Map.Steps.{length-le_from_distinct_below}

-- no two items are equal
abbrev pub Distinct : {X : Type 0} → List X → Type 0
Distinct [] = Unit {0}
Distinct (x ∷ xs) = AllByRecursion (λ y. y ≢ x) xs × Distinct xs

-- images under a map that is one to one on the items are distinct too
pub distinct_map : {X Y : Type 0} (f : X → Y) (Q : X → Type 0) → ((x y : X) → Q x → Q y → f x ≡ f y → x ≡ y) → (xs : List X) → AllByRecursion Q xs → Distinct xs → Distinct (map f xs)
distinct_map f Q one [] h d = tt
distinct_map f Q one (x ∷ xs) h d = (both_map (λ z. z ≢ f x) Q (λ y. y ≢ x) f (λ y q other e. other (one y x q h.0 e)) xs h.1 d.0, distinct_map f Q one xs h.1 d.1)

-- where all keys differ, one key stands at one place
pub one_place : {X K : Type 0} (key : X → K) (xs : List X) (d : X) → AllPairs (λ x y. key x ≢ key y) xs → (i j : ℕ) → i < length xs → j < length xs → key (get_or xs i d) ≡ key (get_or xs j d) → i ≡ j
one_place key xs d apart i j low high same = by (nat_lt i j) refl (nat_lt j i) refl
  where
    by : (b : Bool) → nat_lt i j ≡ b → (c : Bool) → nat_lt j i ≡ c → i ≡ j
    by true e c f = absurd (apart i j d (grind (arith, nat_tests)) high same)
    by false e true f = absurd (apart j i d (grind (arith, nat_tests)) low (sym same))
    by false e false f = grind (arith, nat_tests)

-- distinct numbers below a count are no more than it
pub few_distinct : (xs : List ℕ) (n : ℕ) → AllPairs (λ a b. a ≢ b) xs → AllByRecursion (λ m. m < n) xs → length xs ≤ n
few_distinct xs n apart below = length-le_from_distinct_below xs n (IsDistinct-from_AllPairs Decides-eqb xs apart) (λ q h. low xs q below h)
  where
    low : (ys : List ℕ) (q : ℕ) → AllByRecursion (λ m. m < n) ys → list_any (eqb q) ys ≡ true → q < n
    low [] q all h = absurd (cc h)
    low (y ∷ ys) q all h = go (eqb q y) refl (λ e. low ys q all.1 e)
      where
        go : (b : Bool) → eqb q y ≡ b → (list_any (eqb q) ys ≡ true → q < n) → q < n
        go true e rest = grind (arith, nat_tests, e, all.0)
        go false e rest = rest (grind (arith, nat_tests, e, h))

-- the first item of a list with this name, and another one where there is none
abbrev pub find_in : {X N : Type 0} → (N → N → Bool) → (X → N) → X → List X → N → X
find_in eq f none [] name = none
find_in eq f none (x ∷ xs) name = if eq (f x) name then x else find_in eq f none xs name

module _ {X N : Type 0} (eq : N → N → Bool) (decides : (a b : N) → Decides (eq a b) (a ≡ b)) (f : X → N) (none : X) where
  -- it stays the same with an item of another name in front
  found_behind : (w : X) (all xs : List X) → AllByRecursion (λ t. t ≢ f w) (map f xs) → AllByRecursion (λ x. find_in eq f none all (f x) ≡ x) xs → AllByRecursion (λ x. find_in eq f none (w ∷ all) (f x) ≡ x) xs
  found_behind w all [] apart h = tt
  found_behind w all (x ∷ xs) apart h = (by (eq (f w) (f x)) refl, found_behind w all xs apart.1 h.1)
    where
      by : (b : Bool) → eq (f w) (f x) ≡ b → (if b then w else find_in eq f none all (f x)) ≡ x
      by true e = absurd (apart.0 (sym ((decides (f w) (f x)).0 e)))
      by false e = h.0

  -- where all names differ, each item is found
  pub found_all : (xs : List X) → Distinct (map f xs) → AllByRecursion (λ x. find_in eq f none xs (f x) ≡ x) xs
  found_all [] d = tt
  found_all (w ∷ xs) d = (ap (λ (b : Bool). if b then w else find_in eq f none xs (f w)) ((decides (f w) (f w)).1 refl), found_behind w xs xs d.0 (found_all xs d.1))
