-- The groups that are met are those with an item that clashes, and the groups so far stay what first fit makes.
use Rattle.std.proofs.Common.{arith, ◌≡◌, ℕ, ◌<◌, ◌≤◌, Bool, true, false, not, ◌&&◌, ◌||◌, List, [], ◌∷◌, length, refl, sym, ap, ◌∙◌, Contains, nat_eq, nat_lt, slice_get, Option, None, Some}
use Rattle.std.specs.List.{list_any}
use Rattle.std.proofs.lemmas.Bool.Decides.{nat_tests}
use Rattle.std.proofs.lemmas.Option.{slice_get_within}
use Rattle.std.proofs.lemmas.List.Folds.{Any-from_list_any, list_any-from_Any}
use Rattle.bb_segment.proofs.SetLemmas.{member_true, true_member}
use Rattle.bb_reg.specs.Chosen.{share}
use Rattle.bb_reg.specs.Fitting.{EndsValue, ends_at, ends_clash, fits_in, group_at, holds, numbers_at, AreNoted, is_home, is_home_in, is_met, IsFitted, IsFirstFree, IsHomeFor}

-- two bits of which each is 1 where the other is
pub same_bit : (a b : Bool) → (a ≡ true → b ≡ true) → (b ≡ true → a ≡ true) → a ≡ b
same_bit true b f g = sym (f refl)
same_bit false true f g = g refl
same_bit false false f g = refl

-- an item that passes, and the other way round
pub any_out : {X : Type 0} (p : X → Bool) (xs : List X) → list_any p xs ≡ true → (x : X) × Contains xs x × (p x ≡ true)
any_out p xs e = let a = Any-from_list_any p xs e in (a.1, (a.0, a.2, a.3), a.4)

pub any_in : {X : Type 0} (p : X → Bool) (xs : List X) (x : X) → Contains xs x → p x ≡ true → list_any p xs ≡ true
any_in p xs x c e = list_any-from_Any p xs (c.0, x, c.1, c.2, e)

pub any_or : {X : Type 0} (p q : X → Bool) (xs : List X) → list_any (λ x. p x || q x) xs ≡ (list_any p xs || list_any q xs)
any_or p q [] = refl
any_or p q (x ∷ xs) = by (p x) (q x) (list_any p xs) (list_any q xs) (any_or p q xs)
  where
    by : (a b c d : Bool) {e : Bool} → e ≡ (c || d) → ((a || b) || e) ≡ ((a || c) || (b || d))
    by true b c d h = refl
    by false true true d h = refl
    by false true false d h = refl
    by false false c d h = h

or_swap : (a b : Bool) → (a || b) ≡ (b || a)
or_swap true true = refl
or_swap true false = refl
or_swap false true = refl
or_swap false false = refl

and_left : (a b : Bool) → (a && b) ≡ true → a ≡ true
and_left true b h = refl
and_left false b h = h

and_right : (a b : Bool) → (a && b) ≡ true → b ≡ true
and_right true b h = h
and_right false b h = absurd (cc h)

and_both : (a b : Bool) → a ≡ true → b ≡ true → (a && b) ≡ true
and_both a b e f = cc (e, f)

pub same_any : {X : Type 0} (p q : X → Bool) → ((x : X) → p x ≡ q x) → (xs : List X) → list_any p xs ≡ list_any q xs
same_any p q e xs = ap (λ f. list_any f xs) (λ i x. e x i)

pub share_swap : (xs ys : List ℕ) → share xs ys ≡ share ys xs
share_swap xs ys = same_bit (share xs ys) (share ys xs) (turn xs ys) (turn ys xs)
  where
    turn : (xs ys : List ℕ) → share xs ys ≡ true → share ys xs ≡ true
    turn xs ys e = let a = any_out (λ x. list_any (nat_eq x) ys) xs e in any_in (λ y. list_any (nat_eq y) xs) ys a.0 (member_true ys a.0 a.2) (true_member xs a.0 a.1)

-- the group of an item that is placed
home_within : (homes : List ℕ) (g j : ℕ) → is_home homes g j ≡ true → j < length homes
home_within homes g j e = by (slice_get homes j) refl e
  where
    by : (o : Option ℕ) → slice_get homes j ≡ o → is_home_in o g ≡ true → j < length homes
    by None f h = absurd (cc h)
    by (Some k) f h = slice_get_within homes j k f

-- a group is met by nets where one of its items holds one of them
pub met_part :
    (lists : ℕ → List ℕ) (total : ℕ) (entries : List (ℕ × List ℕ)) (homes group nets : List ℕ) (g : ℕ) → AreNoted lists total entries
    → ((j : ℕ) → list_any (nat_eq j) group ≡ is_home homes g j) → length homes ≤ total → is_met entries homes nets g ≡ list_any (λ j. share (lists j) nets) group
met_part lists total entries homes group nets g noted placed few = same_bit (is_met entries homes nets g) (list_any (λ j. share (lists j) nets) group) forth back
  where
    forth : is_met entries homes nets g ≡ true → list_any (λ j. share (lists j) nets) group ≡ true
    forth e =
        let n = any_out (λ net. list_any (is_home homes g) (numbers_at entries net)) nets e in
        let j = any_out (is_home homes g) (numbers_at entries n.0) n.2 in
        let listed = and_right (nat_lt j.0 total) (list_any (nat_eq n.0) (lists j.0)) (sym (noted n.0 j.0) ∙ true_member (numbers_at entries n.0) j.0 j.1) in
        any_in (λ k. share (lists k) nets) group j.0 (member_true group j.0 (placed j.0 ∙ j.2))
        (any_in (λ x. list_any (nat_eq x) nets) (lists j.0) n.0 (member_true (lists j.0) n.0 listed) (true_member nets n.0 n.1))

    back : list_any (λ j. share (lists j) nets) group ≡ true → is_met entries homes nets g ≡ true
    back e =
        let j = any_out (λ k. share (lists k) nets) group e in
        let n = any_out (λ x. list_any (nat_eq x) nets) (lists j.0) j.2 in
        let home : is_home homes g j.0 ≡ true = sym (placed j.0) ∙ true_member group j.0 j.1 in
        let low = home_within homes g j.0 home in
        let test : nat_lt j.0 total ≡ true = grind (arith, nat_tests, low, few) in
        let here : list_any (nat_eq j.0) (numbers_at entries n.0) ≡ true = noted n.0 j.0 ∙ and_both (nat_lt j.0 total) (list_any (nat_eq n.0) (lists j.0)) test (true_member (lists j.0) n.0 n.1) in
        any_in (λ net. list_any (is_home homes g) (numbers_at entries net)) nets n.0 (member_true nets n.0 n.2)
        (any_in (is_home homes g) (numbers_at entries n.0) j.0 (member_true (numbers_at entries n.0) j.0 here) home)

-- a group is met where an item of it clashes
pub met_is :
    (items : List EndsValue) (most i : ℕ) (groups : List (List ℕ)) (homes open_groups : List ℕ) (givers readers : List (ℕ × List ℕ)) → i < length items → IsFitted items most i groups homes open_groups
    → AreNoted (λ j. (ends_at items j).gives) (length items) givers → AreNoted (λ j. (ends_at items j).reads) (length items) readers
    → (g : ℕ) → (is_met givers homes (ends_at items i).reads g || is_met readers homes (ends_at items i).gives g) ≡ list_any (λ j. ends_clash (ends_at items i) (ends_at items j)) (group_at groups g)
met_is items most i groups homes open_groups givers readers within fitting noted read g =
    let few : length homes ≤ length items = omega (arith, fitting.placed, within) in
    let group = group_at groups g in
    let one = ends_at items i in
    let a = met_part (λ j. (ends_at items j).gives) (length items) givers homes group one.reads g noted (fitting.homes_are g) few in
    let b = met_part (λ j. (ends_at items j).reads) (length items) readers homes group one.gives g read (fitting.homes_are g) few in
    let turn = same_any (λ j. share (ends_at items j).reads one.gives) (λ j. share one.gives (ends_at items j).reads) (λ j. share_swap (ends_at items j).reads one.gives) group in
    let split = any_or (λ j. share one.gives (ends_at items j).reads) (λ j. share (ends_at items j).gives one.reads) group in
    or_swap (is_met givers homes one.reads g) (is_met readers homes one.gives g) ∙ (λ k. (b ∙ turn) k || a k) ∙ sym split

-- the first group that is open and not met is the item's
pub home_is :
    (items : List EndsValue) (most i : ℕ) (groups : List (List ℕ)) (homes open_groups met : List ℕ) (home : Option ℕ) → IsFitted items most i groups homes open_groups
    → ((g : ℕ) → holds met g ≡ list_any (λ j. ends_clash (ends_at items i) (ends_at items j)) (group_at groups g))
    → (home ≡ None → (g : ℕ) → holds open_groups g ≡ true → holds met g ≡ true) → ((g : ℕ) → home ≡ Some g → IsFirstFree open_groups met g) → IsHomeFor items most i groups home
home_is items most i groups homes open_groups met home fitting met_are none some = by home none some
  where
    clashes : ℕ → Bool
    clashes g = list_any (λ j. ends_clash (ends_at items i) (ends_at items j)) (group_at groups g)

    room : ℕ → Bool
    room g = nat_lt (length (group_at groups g)) most

    -- a group that is met where it is open has no room for the item
    closed : (g : ℕ) → g < length groups → (holds open_groups g ≡ true → holds met g ≡ true) → fits_in items most i (group_at groups g) ≡ false
    closed g low open_met = go (nat_lt (length (group_at groups g)) most) refl
      where
        go : (b : Bool) → nat_lt (length (group_at groups g)) most ≡ b → (nat_lt (length (group_at groups g)) most && not (list_any (λ j. ends_clash (ends_at items i) (ends_at items j)) (group_at groups g))) ≡ false
        go false e = ap (λ b. b && not (list_any (λ j. ends_clash (ends_at items i) (ends_at items j)) (group_at groups g))) e
        go true e =
            let stands : nat_lt g (length groups) ≡ true = grind (arith, nat_tests, low) in
            let clash = sym (met_are g) ∙ open_met (fitting.open_are g ∙ and_both (nat_lt g (length groups)) (nat_lt (length (group_at groups g)) most) stands e) in
            (λ k. e k && not (clash k))

    by : (home : Option ℕ) → (home ≡ None → (g : ℕ) → holds open_groups g ≡ true → holds met g ≡ true) → ((g : ℕ) → home ≡ Some g → IsFirstFree open_groups met g) → IsHomeFor items most i groups home
    by None none some = λ g low. closed g low (none refl g)
    by (Some g) none some =
        let f = some g refl in
        let open_is = sym (fitting.open_are g) ∙ f.stands in
        let low : g < length groups = let t = and_left (nat_lt g (length groups)) (nat_lt (length (group_at groups g)) most) open_is in grind (arith, nat_tests, t) in
        let has_room = and_right (nat_lt g (length groups)) (nat_lt (length (group_at groups g)) most) open_is in
        let free = sym (met_are g) ∙ f.free in
        (low, (λ k. has_room k && not (free k)), λ h less. closed h (omega (arith, less, low)) (f.first h less))
