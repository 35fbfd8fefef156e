-- Where all nets are driven by no more drivers than there are nets, each is driven once.
use Rattle.std.proofs.Common.{arith, ◌≡◌, ℕ, suc, zero, ◌+◌, ◌<◌, ◌≤◌, Bool, true, false, List, [], ◌∷◌, length, refl, subst, nat_lt}
use Rattle.std.proofs.lemmas.Bool.Decides.{nat_tests}
use Rattle.bb_base.specs.Net.{times}
use Rattle.bb_base.proofs.TimesLemmas.{total, total_none, total_past, total_more}

-- numbers below a count stand in a list no more often than it is long
total_few : (k : ℕ) (xs : List ℕ) → total k xs ≤ length xs
total_few k [] = omega (arith, total_none k)
total_few k (x ∷ xs) = go (nat_lt x k) refl (total_few k xs)
  where
    go : (b : Bool) → nat_lt x k ≡ b → total k xs ≤ length xs → total k (x ∷ xs) ≤ suc (length xs)
    go true e rest = omega (arith, rest, total_more k x xs (grind (arith, nat_tests, e)))
    go false e rest = omega (arith, rest, total_past k x xs (grind (arith, nat_tests, e)))

total_least : (k : ℕ) (xs : List ℕ) → ((m : ℕ) → m < k → 1 ≤ times m xs) → k ≤ total k xs
total_least zero xs h = omega arith
total_least (suc k) xs h = omega (arith, h k (omega arith), total_least k xs (λ m less. h m (omega arith)))

-- a number that stands twice makes one more
total_twice : (k m : ℕ) (xs : List ℕ) → ((j : ℕ) → j < k → 1 ≤ times j xs) → m < k → 2 ≤ times m xs → suc k ≤ total k xs
total_twice zero m xs h small two = absurd (omega (arith, small))
total_twice (suc k) m xs h small two = go (nat_lt m k) refl (λ less. total_twice k m xs (λ j low. h j (omega (arith, low))) less two)
  where
    go : (b : Bool) → nat_lt m k ≡ b → (m < k → suc k ≤ total k xs) → suc (suc k) ≤ times k xs + total k xs
    go true e rest = omega (arith, h k (omega arith), rest (grind (arith, nat_tests, e)))
    go false e rest =
        let same : m ≡ k = grind (arith, nat_tests, e, small) in
        let here : 2 ≤ times k xs = subst (λ j. 2 ≤ times j xs) same two in
        omega (arith, here, total_least k xs (λ j low. h j (omega (arith, low))))

pub once_each : (nets : ℕ) (xs : List ℕ) → ((m : ℕ) → m < nets → 1 ≤ times m xs) → length xs ≤ nets → (m : ℕ) → m < nets → times m xs ≡ 1
once_each nets xs some few m small = go (nat_lt 1 (times m xs)) refl
  where
    go : (b : Bool) → nat_lt 1 (times m xs) ≡ b → times m xs ≡ 1
    go true e = absurd (omega (arith, few, total_few nets xs, total_twice nets m xs some small (grind (arith, nat_tests, e))))
    go false e = let one = some m small in grind (arith, nat_tests, e, one)
