-- Sessions that list a register and one that feeds it, by stamps.
use Rattle.std.proofs.Common.{arith, ◌≡◌, ℕ, ◌<◌, ◌≤◌, ◌==◌, ◌||◌, List, [], ◌∷◌, length, All, Bool, true, false, cond, nat_lt, refl, subst, slice_index, Contains}
use Rattle.std.proofs.lemmas.Bool.Decides.{nat_tests}
use Rattle.std.proofs.lemmas.Grind.{common_steps}
use Rattle.std.proofs.lemmas.List.Elements.{All-contains}
use Rattle.std.specs.List.{list_any}
use Rattle.bb_base.proofs.Contained.{here, there, none_in}
use Rattle.bb_terms.specs.Plan.{lists_register}
use Rattle.bb_plan.specs.Clashes.{feeders_at, session_clashes}

-- tests that agree on the items agree on the list
pub any_same : {X : Type 0} (f g : X → Bool) (xs : List X) → ((x : X) → Contains xs x → f x ≡ g x) → list_any f xs ≡ list_any g xs
any_same f g [] h = refl
any_same f g (x ∷ xs) h = let rest = any_same f g xs (λ y c. h y (there x xs y c)) in λ i. h x (here x xs) i || rest i

-- an entry's registers are some
pub fed_within : (table : List (List ℕ)) (most r q : ℕ) → All (λ qs. All (λ k. k < most) qs) table → Contains (feeders_at table r) q → q < most
fed_within table most r q all c = by (nat_lt r (length table)) refl
  where
    by : (b : Bool) → nat_lt r (length table) ≡ b → q < most
    by true e = All-contains (λ k. k < most) (feeders_at table r) q (all r [] (grind (arith, nat_tests, e))) c
    by false e =
        let none : feeders_at table r ≡ [] = (let past : length table ≤ r = grind (arith, nat_tests, e) in grind (arith, common_steps, past)) in
        absurd (none_in q (subst (λ (xs : List ℕ). Contains xs q) none c))

-- a stamp that is new stands exactly at what the session lists
pub stamped : (old new number q : ℕ) (listed : Bool) → old < number → new ≡ cond listed number old → (new == number) ≡ listed
stamped old new number q true low e = grind (arith, nat_tests, e)
stamped old new number q false low e = grind (arith, nat_tests, e, low)

pub clash_by_stamps : (table : List (List ℕ)) (session old new : List ℕ) (number : ℕ) → length old ≡ length table → ((r : ℕ) → slice_index old r < number) → All (λ qs. All (λ q. q < length table) qs) table
    → ((r : ℕ) → r < length old → slice_index new r ≡ cond (lists_register r session) number (slice_index old r))
    → list_any (λ r. list_any (λ q. slice_index new q == number) (feeders_at table r)) session ≡ session_clashes table session
clash_by_stamps table session old new number long low all each =
    any_same (λ r. list_any (λ q. slice_index new q == number) (feeders_at table r)) (λ r. list_any (λ q. lists_register q session) (feeders_at table r)) session
    (λ r _. any_same (λ q. slice_index new q == number) (λ q. lists_register q session) (feeders_at table r)
    (λ q c. stamped (slice_index old q) (slice_index new q) number q (lists_register q session) (low q) (each q (let inside = fed_within table (length table) r q all c in omega (arith, inside, long)))))

-- stamps stay low
pub low_stamps : (session old new : List ℕ) (number : ℕ) → length new ≡ length old → ((r : ℕ) → slice_index old r < number) → ((r : ℕ) → r < length old → slice_index new r ≡ cond (lists_register r session) number (slice_index old r)) → (r : ℕ) → slice_index new r ≤ number
low_stamps session old new number long low each r = by (nat_lt r (length old)) refl
  where
    at : (b : Bool) → lists_register r session ≡ b → slice_index new r ≡ cond b number (slice_index old r) → slice_index new r ≤ number
    at true f e = omega (arith, e)
    at false f e = let less = low r in omega (arith, e, less)

    by : (b : Bool) → nat_lt r (length old) ≡ b → slice_index new r ≤ number
    by true e = at (lists_register r session) refl (each r (grind (arith, nat_tests, e)))
    by false e =
        let past : length new ≤ r = grind (arith, nat_tests, e, long) in
        let none : slice_index new r ≡ 0 = grind (arith, common_steps, past) in
        omega (arith, none)
