-- One more item is placed: the groups stay what first fit makes of the items so far.
use Rattle.std.proofs.Common.{arith, ◌≡◌, ℕ, zero, suc, ◌+◌, ◌<◌, ◌≤◌, ◌≢◌, Bool, true, false, ◌&&◌, ◌||◌, List, [], ◌∷◌, ◌++◌, length, refl, sym, ap, ◌∙◌, subst, nat_eq, nat_lt, get_or, set, Option, None, Some, if◌then◌else◌, length-append, length-set}
use Rattle.std.specs.List.{list_any, range_with_len}
use Rattle.std.proofs.lemmas.Bool.Decides.{nat_tests}
use Rattle.std.proofs.lemmas.Grind.{common_steps}
use Rattle.std.proofs.lemmas.List.{get_or-set_same, get_or-set_other}
use Rattle.std.proofs.lemmas.List.Folds.{list_any-append}
use Rattle.std.proofs.lemmas.List.Sums.{fold-append}
use Rattle.bb_base.proofs.BooleanLemmas.{or_false}
use Rattle.bb_reg.specs.Chosen.{first_fit, fitted}
use Rattle.bb_reg.specs.Fitting.{EndsValue, fits_in, groups_of, group_at, holds, is_home, IsFitted, IsHomeFor}

-- first fit into the first group that fits, and into a new one where none does
pub fit_first : {X : Type 0} (fits : X → List X → Bool) (groups : List (List X)) (x : X) (g : ℕ) → g < length groups → fits x (get_or groups g []) ≡ true → ((h : ℕ) → h < g → fits x (get_or groups h []) ≡ false) → first_fit fits groups x ≡ set groups g (get_or groups g [] ++ x ∷ [])
fit_first fits [] x g low here before = absurd (omega (arith, low))
fit_first fits (group ∷ more) x zero low here before = ap (λ (b : Bool). if b then (group ++ x ∷ []) ∷ more else group ∷ first_fit fits more x) here
fit_first fits (group ∷ more) x (suc g) low here before =
    ap (λ (b : Bool). if b then (group ++ x ∷ []) ∷ more else group ∷ first_fit fits more x) (before 0 (omega arith))
    ∙ ap (λ ks. group ∷ ks) (fit_first fits more x g (omega (arith, low)) here (λ h less. before (suc h) (omega (arith, less))))

pub fit_none : {X : Type 0} (fits : X → List X → Bool) (groups : List (List X)) (x : X) → ((h : ℕ) → h < length groups → fits x (get_or groups h []) ≡ false) → first_fit fits groups x ≡ groups ++ (x ∷ []) ∷ []
fit_none fits [] x none = refl
fit_none fits (group ∷ more) x none =
    ap (λ (b : Bool). if b then (group ++ x ∷ []) ∷ more else group ∷ first_fit fits more x) (none 0 (omega arith))
    ∙ ap (λ ks. group ∷ ks) (fit_none fits more x (λ h less. none (suc h) (omega (arith, less))))

-- the numbers up to one more
pub range_more : (a n : ℕ) → range_with_len a (suc n) ≡ range_with_len a n ++ (a + n) ∷ []
range_more a zero = ap (λ k. k ∷ []) (omega arith)
range_more a (suc n) = ap (λ ks. a ∷ ks) (range_more (a + 1) n ∙ ap (λ k. range_with_len (a + 1) n ++ k ∷ []) (omega arith))

pub groups_more : (items : List EndsValue) (most i : ℕ) → groups_of items most (i + 1) ≡ first_fit (fits_in items most) (groups_of items most i) i
groups_more items most i =
    let next : i + 1 ≡ suc i = omega arith in
    ap (groups_of items most) next ∙ ap (fitted (fits_in items most)) (range_more 0 i ∙ ap (λ k. range_with_len 0 i ++ k ∷ []) (omega arith))
    ∙ fold-append (first_fit (fits_in items most)) [] (range_with_len 0 i) (i ∷ [])

-- the group of one more item that is placed
home_more : (homes : List ℕ) (h g j : ℕ) → is_home (homes ++ h ∷ []) g j ≡ (is_home homes g j || (nat_eq j (length homes) && nat_eq g h))
home_more [] h g zero = refl
home_more [] h g (suc j) = let apart : nat_eq (suc j) 0 ≡ false = grind (arith, nat_tests) in ap (λ b. b && nat_eq g h) (sym apart)
home_more (k ∷ homes) h g zero =
    let apart : nat_eq 0 (suc (length homes)) ≡ false = grind (arith, nat_tests) in
    sym (ap (λ b. nat_eq g k || (b && nat_eq g h)) apart ∙ or_false (nat_eq g k))
home_more (k ∷ homes) h g (suc j) =
    let same : nat_eq (suc j) (suc (length homes)) ≡ nat_eq j (length homes) = grind (arith, nat_tests) in
    home_more homes h g j ∙ ap (λ b. is_home homes g j || (b && nat_eq g h)) (sym same)

-- what a list has that got one more number in one case
member_more : (group before : List ℕ) (i j : ℕ) (b : Bool) → group ≡ (if b then before ++ i ∷ [] else before) → list_any (nat_eq j) group ≡ (list_any (nat_eq j) before || (nat_eq j i && b))
member_more group before i j true e = ap (list_any (nat_eq j)) e ∙ list_any-append (nat_eq j) before (i ∷ []) ∙ ap (λ c. list_any (nat_eq j) before || c) (last (nat_eq j i))
  where
    last : (c : Bool) → (c || false) ≡ (c && true)
    last true = refl
    last false = refl
member_more group before i j false e = ap (list_any (nat_eq j)) e ∙ sym (or_false (list_any (nat_eq j) before)) ∙ ap (λ c. list_any (nat_eq j) before || c) (last (nat_eq j i))
  where
    last : (c : Bool) → false ≡ (c && false)
    last true = refl
    last false = refl

-- where one group got the item
pub fitting_more :
    (items : List EndsValue) (most i h : ℕ) (groups groups' : List (List ℕ)) (homes open_groups open_groups' : List ℕ) → IsFitted items most i groups homes open_groups → groups' ≡ groups_of items most (i + 1)
    → length groups' ≤ i + 1 → ((g : ℕ) → group_at groups' g ≡ (if nat_eq g h then group_at groups g ++ i ∷ [] else group_at groups g))
    → ((g : ℕ) → nat_lt g (length groups') ≡ (nat_eq g h || nat_lt g (length groups)))
    → ((g : ℕ) → holds open_groups' g ≡ (if nat_eq g h then nat_lt (length (group_at groups' h)) most else holds open_groups g))
    → IsFitted items most (i + 1) groups' (homes ++ h ∷ []) open_groups'
fitting_more items most i h groups groups' homes open_groups open_groups' fitting are few each counted opened = record {
  groups_are = are;
  placed = omega (arith, fitting.placed, length-append homes (h ∷ []));
  few = few;
  homes_are = λ g j.
      member_more (group_at groups' g) (group_at groups g) i j (nat_eq g h) (each g)
      ∙ ap (λ b. b || (nat_eq j i && nat_eq g h)) (fitting.homes_are g j)
      ∙ ap (λ n. is_home homes g j || (nat_eq j n && nat_eq g h)) (sym fitting.placed)
      ∙ sym (home_more homes h g j);
  open_are = λ g. by g (nat_eq g h) refl;
}
  where
    by : (g : ℕ) (b : Bool) → nat_eq g h ≡ b → holds open_groups' g ≡ (nat_lt g (length groups') && nat_lt (length (group_at groups' g)) most)
    by g true e =
        let same : g ≡ h = grind (arith, nat_tests, e) in
        let o = opened g ∙ ap (λ (b : Bool). if b then nat_lt (length (group_at groups' h)) most else holds open_groups g) e in
        let c = counted g ∙ ap (λ (b : Bool). b || nat_lt g (length groups)) e in
        o ∙ ap (λ k. nat_lt (length (group_at groups' k)) most) (sym same) ∙ ap (λ (b : Bool). b && nat_lt (length (group_at groups' g)) most) (sym c)
    by g false e =
        let o = opened g ∙ ap (λ (b : Bool). if b then nat_lt (length (group_at groups' h)) most else holds open_groups g) e in
        let c = counted g ∙ ap (λ (b : Bool). b || nat_lt g (length groups)) e in
        let s = each g ∙ ap (λ (b : Bool). if b then group_at groups g ++ i ∷ [] else group_at groups g) e in
        o ∙ fitting.open_are g ∙ ap (λ (b : Bool). b && nat_lt (length (group_at groups g)) most) (sym c) ∙ ap (λ k. nat_lt g (length groups') && nat_lt (length k) most) (sym s)

-- the item joins a group, or begins one
pub fitting_placed :
    (items : List EndsValue) (most i h : ℕ) (groups groups' : List (List ℕ)) (homes open_groups open_groups' : List ℕ) (home : Option ℕ) → IsFitted items most i groups homes open_groups → IsHomeFor items most i groups home
    → ((g : ℕ) → home ≡ Some g → h ≡ g) → ((g : ℕ) → home ≡ Some g → groups' ≡ set groups g (group_at groups g ++ i ∷ []))
    → (home ≡ None → h ≡ length groups) → (home ≡ None → groups' ≡ groups ++ (i ∷ []) ∷ [])
    → ((g : ℕ) → holds open_groups' g ≡ (if nat_eq g h then nat_lt (length (group_at groups' h)) most else holds open_groups g))
    → IsFitted items most (i + 1) groups' (homes ++ h ∷ []) open_groups'
fitting_placed items most i h groups groups' homes open_groups open_groups' (Some g) fitting is same joined begun added opened =
    let at : h ≡ g = same g refl in
    let new : groups' ≡ set groups h (group_at groups h ++ i ∷ []) = subst (λ k. groups' ≡ set groups k (group_at groups k ++ i ∷ [])) (sym at) (joined g refl) in
    let low : h < length groups = subst (λ k. k < length groups) (sym at) is.0 in
    let long : length groups' ≡ length groups = ap length new ∙ length-set groups h (group_at groups h ++ i ∷ []) in
    fitting_more items most i h groups groups' homes open_groups open_groups' fitting
    (joined g refl ∙ sym (fit_first (fits_in items most) groups i g is.0 is.1 is.2) ∙ ap (λ ks. first_fit (fits_in items most) ks i) fitting.groups_are ∙ sym (groups_more items most i))
    (omega (arith, long, fitting.few)) (each new low) (counted long low) opened
  where
    each : groups' ≡ set groups h (group_at groups h ++ i ∷ []) → h < length groups → (k : ℕ) → group_at groups' k ≡ (if nat_eq k h then group_at groups k ++ i ∷ [] else group_at groups k)
    each new low k = by (nat_eq k h) refl
      where
        by : (b : Bool) → nat_eq k h ≡ b → group_at groups' k ≡ (if b then group_at groups k ++ i ∷ [] else group_at groups k)
        by true e =
            let same : k ≡ h = grind (arith, nat_tests, e) in
            ap (λ gs. get_or gs k []) new ∙ ap (λ n. get_or (set groups h (group_at groups h ++ i ∷ [])) n []) same ∙ get_or-set_same groups h (group_at groups h ++ i ∷ []) [] low ∙ ap (λ n. group_at groups n ++ i ∷ []) (sym same)
        by false e =
            let apart : k ≢ h = grind (arith, nat_tests, e) in
            ap (λ gs. get_or gs k []) new ∙ get_or-set_other groups h k (group_at groups h ++ i ∷ []) [] apart

    counted : length groups' ≡ length groups → h < length groups → (k : ℕ) → nat_lt k (length groups') ≡ (nat_eq k h || nat_lt k (length groups))
    counted long low k = ap (nat_lt k) long ∙ grind (arith, nat_tests, low)
fitting_placed items most i h groups groups' homes open_groups open_groups' None fitting is same joined begun added opened =
    let at : h ≡ length groups = begun refl in
    let new : groups' ≡ groups ++ (i ∷ []) ∷ [] = added refl in
    let long : length groups' ≡ length groups + 1 = ap length new ∙ length-append groups ((i ∷ []) ∷ []) in
    fitting_more items most i h groups groups' homes open_groups open_groups' fitting
    (new ∙ sym (fit_none (fits_in items most) groups i is) ∙ ap (λ ks. first_fit (fits_in items most) ks i) fitting.groups_are ∙ sym (groups_more items most i))
    (omega (arith, long, fitting.few)) (each at new) (counted at long) opened
  where
    each : h ≡ length groups → groups' ≡ groups ++ (i ∷ []) ∷ [] → (k : ℕ) → group_at groups' k ≡ (if nat_eq k h then group_at groups k ++ i ∷ [] else group_at groups k)
    each at new k = by (nat_eq k h) refl
      where
        by : (b : Bool) → nat_eq k h ≡ b → group_at groups' k ≡ (if b then group_at groups k ++ i ∷ [] else group_at groups k)
        by true e = let same : k ≡ length groups = grind (arith, nat_tests, e, at) in grind (arith, common_steps, new, same)
        by false e = let apart : k ≢ length groups = grind (arith, nat_tests, e, at) in grind (arith, common_steps, new, apart)

    counted : h ≡ length groups → length groups' ≡ length groups + 1 → (k : ℕ) → nat_lt k (length groups') ≡ (nat_eq k h || nat_lt k (length groups))
    counted at long k = ap (nat_lt k) long ∙ grind (arith, nat_tests, at)

-- the item's group exists
pub placed_within :
    (items : List EndsValue) (most i h : ℕ) (groups groups' : List (List ℕ)) (home : Option ℕ) → IsHomeFor items most i groups home
    → ((g : ℕ) → home ≡ Some g → h ≡ g) → ((g : ℕ) → home ≡ Some g → groups' ≡ set groups g (group_at groups g ++ i ∷ []))
    → (home ≡ None → h ≡ length groups) → (home ≡ None → groups' ≡ groups ++ (i ∷ []) ∷ []) → h < length groups'
placed_within items most i h groups groups' (Some g) is same joined begun added =
    let long : length groups' ≡ length groups = ap length (joined g refl) ∙ length-set groups g (group_at groups g ++ i ∷ []) in
    omega (arith, long, is.0, same g refl)
placed_within items most i h groups groups' None is same joined begun added =
    let long : length groups' ≡ length groups + 1 = ap length (added refl) ∙ length-append groups ((i ∷ []) ∷ []) in
    omega (arith, long, begun refl)
