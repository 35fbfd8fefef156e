-- Ways back that end: past some number of gates no further net's ways end.
use Rattle.std.proofs.Common.{arith, ◌≡◌, ◌⊎◌, inl, inr, ℕ, suc, zero, ◌+◌, ◌-◌, ◌<◌, ◌≤◌, ◌==◌, Bool, true, false, List, [], ◌∷◌, refl, sym, cond, subst, nat_lt}
use Rattle.std.proofs.lemmas.Bool.Decides.{nat_tests}
use Rattle.std.proofs.lemmas.List.FromFn.{length-range_with_len}
use Rattle.std.proofs.lemmas.List.Sums.{sum_by-cons, count_by-le-length}
use Rattle.std.specs.Prelude.{Contains, count_by, if◌then◌else◌}
use Rattle.std.specs.List.{AllByRecursion, list_all, range_with_len}
use Rattle.bb_base.specs.Net.{Gate}
use Rattle.bb_base.specs.Order.{drivers, is_within, is_empty, IsStuck}
use Rattle.bb_base.proofs.Contained.{here, there}

-- tests of all items of a list
pub all_more : {X : Type 0} (p q : X → Bool) → ((x : X) → p x ≡ true → q x ≡ true) → (xs : List X) → list_all p xs ≡ true → list_all q xs ≡ true
all_more p q more [] h = refl
all_more p q more (x ∷ xs) h =
    let here = more x (grind (arith, nat_tests, h)) in
    let rest = all_more p q more xs (grind (arith, nat_tests, h)) in
    grind (arith, nat_tests, here, rest)

-- the same where it holds of items with Q
pub all_more_on : {X : Type 0} (p q : X → Bool) (Q : X → Type 0) → ((x : X) → Q x → p x ≡ true → q x ≡ true) → (xs : List X) → AllByRecursion Q xs → list_all p xs ≡ true → list_all q xs ≡ true
all_more_on p q Q more [] all h = refl
all_more_on p q Q more (x ∷ xs) all h =
    let here = more x all.0 (grind (arith, nat_tests, h)) in
    let rest = all_more_on p q Q more xs all.1 (grind (arith, nat_tests, h)) in
    grind (arith, nat_tests, here, rest)

-- the test passes all items that have a property which passes it
pub passes_all : {X : Type 0} (p : X → Bool) (Q : X → Type 0) → ((x : X) → Q x → p x ≡ true) → (xs : List X) → AllByRecursion Q xs → list_all p xs ≡ true
passes_all p Q passes [] all = refl
passes_all p Q passes (x ∷ xs) all =
    let here = passes x all.0 in
    let rest = passes_all p Q passes xs all.1 in
    grind (arith, nat_tests, here, rest)

none_all : (ds : List (Gate ℕ)) (p : Gate ℕ → Bool) → is_empty ds ≡ true → list_all p ds ≡ true
none_all [] p h = refl
none_all (d ∷ ds) p h = absurd (cc h)

-- ways that pass at most so many gates pass at most one more
pub one_more : (gates : List (Gate ℕ)) (k net : ℕ) → is_within gates k net ≡ true → is_within gates (suc k) net ≡ true
one_more gates zero net h = none_all (drivers gates net) (λ g. list_all (is_within gates zero) g.ins) h
one_more gates (suc k) net h =
    all_more (λ g. list_all (is_within gates k) g.ins) (λ g. list_all (is_within gates (suc k)) g.ins) (λ g e. all_more (is_within gates k) (is_within gates (suc k)) (λ n d. one_more gates k n d) g.ins e) (drivers gates net) h

pub up_to : (gates : List (Gate ℕ)) (k top net : ℕ) → k ≤ top → is_within gates k net ≡ true → is_within gates top net ≡ true
up_to gates k zero net less h = let same : k ≡ 0 = omega (arith, less) in subst (λ t. is_within gates t net ≡ true) same h
up_to gates k (suc top) net less h = go (nat_lt top k) refl (λ l. up_to gates k top net l h)
  where
    go : (t : Bool) → nat_lt top k ≡ t → (k ≤ top → is_within gates top net ≡ true) → is_within gates (suc top) net ≡ true
    go true e rest = let same : k ≡ suc top = grind (arith, nat_tests, e, less) in subst (λ t. is_within gates t net ≡ true) same h
    go false e rest = one_more gates top net (rest (grind (arith, nat_tests, e)))

-- gates that drive a net --------------------------------------------------

-- what holds of all gates holds of those that drive a net
pub all_drivers : (P : Gate ℕ → Type 0) (gates : List (Gate ℕ)) (net : ℕ) → AllByRecursion P gates → AllByRecursion P (drivers gates net)
all_drivers P [] net h = tt
all_drivers P (g ∷ gates) net h = go (g.out == net) refl (all_drivers P gates net h.1)
  where
    go : (b : Bool) → (g.out == net) ≡ b → AllByRecursion P (drivers gates net) → AllByRecursion P (cond b (g ∷ drivers gates net) (drivers gates net))
    go true e rest = (h.0, rest)
    go false e rest = rest

-- a gate that stands, and drives the net
abbrev pub DrivesNet : List (Gate ℕ) → ℕ → Gate ℕ → Type 0
DrivesNet gates net g = Contains gates g × (g.out ≡ net)

more_drive : (f : Gate ℕ) (gates : List (Gate ℕ)) (net : ℕ) (ds : List (Gate ℕ)) → AllByRecursion (DrivesNet gates net) ds → AllByRecursion (DrivesNet (f ∷ gates) net) ds
more_drive f gates net [] h = tt
more_drive f gates net (d ∷ ds) h = ((there f gates d h.0.0, h.0.1), more_drive f gates net ds h.1)

pub drivers_stand : (gates : List (Gate ℕ)) (net : ℕ) → AllByRecursion (DrivesNet gates net) (drivers gates net)
drivers_stand [] net = tt
drivers_stand (g ∷ gates) net = go (g.out == net) refl (more_drive g gates net (drivers gates net) (drivers_stand gates net))
  where
    go : (b : Bool) → (g.out == net) ≡ b → AllByRecursion (DrivesNet (g ∷ gates) net) (drivers gates net) → AllByRecursion (DrivesNet (g ∷ gates) net) (cond b (g ∷ drivers gates net) (drivers gates net))
    go true e rest = ((here g gates, grind (arith, nat_tests, e)), rest)
    go false e rest = rest

-- the first number that passes ----------------------------------------------

-- the first number below a bound that passes, and the bound where none does
abbrev pub first_of : (ℕ → Bool) → ℕ → ℕ
first_of p zero = 0
first_of p (suc bound) = if p 0 then 0 else suc (first_of (λ k. p (suc k)) bound)

-- no number that passes is below it
pub first_low : (p : ℕ → Bool) (bound k : ℕ) → p k ≡ true → first_of p bound ≤ k
first_low p zero k h = omega arith
first_low p (suc bound) k h = go (p 0) refl k h (λ j e. first_low (λ i. p (suc i)) bound j e)
  where
    go : (b : Bool) → p 0 ≡ b → (j : ℕ) → p j ≡ true → ((m : ℕ) → p (suc m) ≡ true → first_of (λ i. p (suc i)) bound ≤ m) → cond b 0 (suc (first_of (λ i. p (suc i)) bound)) ≤ j
    go true e j h rest = omega arith
    go false e zero h rest = absurd (cc (e, h))
    go false e (suc j) h rest = let low = rest j h in omega (arith, low)

-- and where the bound passes, so does it
pub first_passes : (p : ℕ → Bool) (bound : ℕ) → p bound ≡ true → p (first_of p bound) ≡ true
first_passes p zero h = h
first_passes p (suc bound) h = go (p 0) refl (first_passes (λ i. p (suc i)) bound h)
  where
    go : (b : Bool) → p 0 ≡ b → p (suc (first_of (λ i. p (suc i)) bound)) ≡ true → p (cond b 0 (suc (first_of (λ i. p (suc i)) bound))) ≡ true
    go true e rest = e
    go false e rest = rest

pub first_before : (p : ℕ → Bool) (bound j : ℕ) → j < first_of p bound → p j ≡ false
first_before p bound j less = go (p j) refl
  where
    go : (b : Bool) → p j ≡ b → p j ≡ false
    go true e = absurd (omega (arith, less, first_low p bound j e))
    go false e = e

-- where ways back end no later ----------------------------------------------

abbrev count : List (Gate ℕ) → ℕ → ℕ → ℕ
count gates nets k = count_by (is_within gates k) (range_with_len 0 nets)

-- a test that passes more passes as many of a list's items, and where it passes no more, both pass the same ones
less_count : {X : Type 0} (p q : X → Bool) → ((x : X) → p x ≡ true → q x ≡ true) → (xs : List X) → count_by p xs ≤ count_by q xs
less_count p q more [] = omega arith
less_count p q more (x ∷ xs) =
    let a = sum_by-cons (λ y. cond (p y) 1 0) x xs in
    let b = sum_by-cons (λ y. cond (q y) 1 0) x xs in
    let rest = less_count p q more xs in
    go (p x) refl (q x) refl a b rest
  where
    go : (s : Bool) → p x ≡ s → (t : Bool) → q x ≡ t → count_by p (x ∷ xs) ≡ cond (p x) 1 0 + count_by p xs → count_by q (x ∷ xs) ≡ cond (q x) 1 0 + count_by q xs → count_by p xs ≤ count_by q xs → count_by p (x ∷ xs) ≤ count_by q (x ∷ xs)
    go true e true f a b rest = grind (arith, e, f, a, b, rest)
    go true e false f a b rest = absurd (cc (f, more x e))
    go false e t f a b rest = grind (arith, e, a, b, rest)

same_count : {X : Type 0} (p q : X → Bool) → ((x : X) → p x ≡ true → q x ≡ true) → (xs : List X) → count_by q xs ≤ count_by p xs → AllByRecursion (λ x. q x ≡ true → p x ≡ true) xs
same_count p q more [] few = tt
same_count p q more (x ∷ xs) few =
    let a = sum_by-cons (λ y. cond (p y) 1 0) x xs in
    let b = sum_by-cons (λ y. cond (q y) 1 0) x xs in
    let less = less_count p q more xs in
    go (p x) refl (q x) refl a b less (λ h. same_count p q more xs h)
  where
    go : (s : Bool) → p x ≡ s → (t : Bool) → q x ≡ t → count_by p (x ∷ xs) ≡ cond (p x) 1 0 + count_by p xs → count_by q (x ∷ xs) ≡ cond (q x) 1 0 + count_by q xs → count_by p xs ≤ count_by q xs
        → (count_by q xs ≤ count_by p xs → AllByRecursion (λ y. q y ≡ true → p y ≡ true) xs) → (q x ≡ true → p x ≡ true) × AllByRecursion (λ y. q y ≡ true → p y ≡ true) xs
    go true e t f a b less rest = let fewer : count_by q xs ≤ count_by p xs = grind (arith, nat_tests, e, a, b, few, more x e) in ((λ h. e), rest fewer)
    go false e true f a b less rest = absurd (grind (arith, e, f, a, b, few, less))
    go false e false f a b less rest = let fewer : count_by q xs ≤ count_by p xs = grind (arith, e, f, a, b, few) in ((λ h. absurd (cc (h, f))), rest fewer)

-- nets whose ways back pass at most k + 1 gates pass at most k
abbrev pub EndsAt : List (Gate ℕ) → ℕ → ℕ → Type 0
EndsAt gates nets k = (m : ℕ) → m < nets → is_within gates (suc k) m ≡ true → is_within gates k m ≡ true

-- a fact of each number of a range
in_range : (P : ℕ → Type 0) (first n m : ℕ) → AllByRecursion P (range_with_len first n) → first ≤ m → m < first + n → P m
in_range P first zero m all low high = absurd (omega (arith, low, high))
in_range P first (suc n) m all low high = go (first == m) refl (λ l. in_range P (first + 1) n m all.1 l (omega (arith, high)))
  where
    go : (b : Bool) → (first == m) ≡ b → (first + 1 ≤ m → P m) → P m
    go true e rest = let same : first ≡ m = grind (arith, nat_tests, e) in subst P same all.0
    go false e rest = rest (grind (arith, nat_tests, e, low))

ends_or_grows : (gates : List (Gate ℕ)) (nets top : ℕ) → ((k : ℕ) × EndsAt gates nets k) ⊎ (top ≤ count gates nets top)
ends_or_grows gates nets zero = inr (omega arith)
ends_or_grows gates nets (suc top) = go (ends_or_grows gates nets top)
  where
    by : (b : Bool) → nat_lt (count gates nets top) (count gates nets (suc top)) ≡ b → top ≤ count gates nets top → ((k : ℕ) × EndsAt gates nets k) ⊎ (suc top ≤ count gates nets (suc top))
    by true e h = let less : count gates nets top < count gates nets (suc top) = grind (arith, nat_tests, e) in inr (omega (arith, less, h))
    by false e h =
        let few : count gates nets (suc top) ≤ count gates nets top = grind (arith, nat_tests, e) in
        let same = same_count (is_within gates top) (is_within gates (suc top)) (λ m w. one_more gates top m w) (range_with_len 0 nets) few in
        inl (top, λ m small. in_range (λ x. is_within gates (suc top) x ≡ true → is_within gates top x ≡ true) 0 nets m same (omega arith) (omega (arith, small)))

    go : ((k : ℕ) × EndsAt gates nets k) ⊎ (top ≤ count gates nets top) → ((k : ℕ) × EndsAt gates nets k) ⊎ (suc top ≤ count gates nets (suc top))
    go (inl found) = inl found
    go (inr h) = by (nat_lt (count gates nets top) (count gates nets (suc top))) refl h

-- ways back from so many nets end no later than at some number of gates
pub ends_somewhere : (gates : List (Gate ℕ)) (nets : ℕ) → (k : ℕ) × EndsAt gates nets k
ends_somewhere gates nets = go (ends_or_grows gates nets (suc nets))
  where
    go : ((k : ℕ) × EndsAt gates nets k) ⊎ (suc nets ≤ count gates nets (suc nets)) → (k : ℕ) × EndsAt gates nets k
    go (inl found) = found
    go (inr h) =
        let most = count_by-le-length (is_within gates (suc nets)) (range_with_len 0 nets) in
        absurd (omega (arith, h, most, length-range_with_len 0 nets))

-- gates that read nets below a count
abbrev pub ReadBelow : ℕ → List (Gate ℕ) → Type 0
ReadBelow nets gates = AllByRecursion (λ g. AllByRecursion (λ n. n < nets) g.ins) gates

-- so no further gates let more of them end
pub stays : (gates : List (Gate ℕ)) (nets k : ℕ) → ReadBelow nets gates → EndsAt gates nets k → (j m : ℕ) → m < nets → is_within gates (j + k) m ≡ true → is_within gates k m ≡ true
stays gates nets k read ends zero m small h = let same : 0 + k ≡ k = omega arith in subst (λ t. is_within gates t m ≡ true) same h
stays gates nets k read ends (suc j) m small h =
    let more : suc j + k ≡ suc (j + k) = omega arith in
    ends m small
    (all_more_on (λ g. list_all (is_within gates (j + k)) g.ins) (λ g. list_all (is_within gates k) g.ins) (λ g. AllByRecursion (λ n. n < nets) g.ins)
    (λ g below e. all_more_on (is_within gates (j + k)) (is_within gates k) (λ n. n < nets) (λ n less w. stays gates nets k read ends j n less w) g.ins below e) (drivers gates m)
    (all_drivers (λ g. AllByRecursion (λ n. n < nets) g.ins) gates m read) (subst (λ t. is_within gates t m ≡ true) more h))

pub stuck_at : (gates : List (Gate ℕ)) (nets k m : ℕ) → ReadBelow nets gates → EndsAt gates nets k → m < nets → is_within gates k m ≡ false → IsStuck gates m
stuck_at gates nets k m read ends small out j = go (is_within gates j m) refl (nat_lt j k) refl
  where
    go : (b : Bool) → is_within gates j m ≡ b → (c : Bool) → nat_lt j k ≡ c → is_within gates j m ≡ false
    go false e c f = e
    go true e true f = absurd (cc (out, up_to gates j k m (grind (arith, nat_tests, f)) e))
    go true e false f =
        let past : (j - k) + k ≡ j = grind (arith, nat_tests, f) in
        absurd (cc (out, stays gates nets k read ends (j - k) m small (subst (λ t. is_within gates t m ≡ true) (sym past) e)))
