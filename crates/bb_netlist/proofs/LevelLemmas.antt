-- Lists of readers, and tables of depths.
use Rattle.std.proofs.Common.{◌≡◌, ℕ, ◌+◌, ◌-◌, ◌<◌, ◌≤◌, ◌==◌, ◌&&◌, not, slice_index, List, [], ◌∷◌, ◌++◌, length, take, zero, suc, cond, Bool, true, false, refl, arith, slice_set, slice_get, Some}
use Rattle.std.proofs.lemmas.Grind.{common_steps}
use Rattle.std.proofs.lemmas.Bool.Decides.{nat_tests}
use Rattle.std.proofs.lemmas.Option.{gets}
use Rattle.std.specs.Prelude.{slice_index_or}
use Rattle.std.proofs.lemmas.List.Sums.{count_by_more_yes, count_by_more_no, sum_by-take-le}
use Rattle.bb_base.specs.Net.{Gate, times}
use Rattle.bb_base.specs.Levels.{inputs_at}
use Rattle.bb_base.proofs.TimesLemmas.{times_join, times_head}

-- one more reader of a net
pub times_more : (h number : ℕ) (readers : List ℕ) → times h (readers ++ number ∷ []) ≡ times h readers + cond (number == h) 1 0
times_more h number readers =
    let join = times_join h readers (number ∷ []) in
    let one = times_head h number [] in
    grind (arith, common_steps)

pub noted_at :
    (readers : List (List ℕ)) (i n h number : ℕ) → i < length readers
    → times h (slice_index_or (slice_set readers i (slice_index_or readers i [] ++ number ∷ [])) n []) ≡ times h (slice_index_or readers n []) + cond (i == n) (cond (number == h) 1 0) 0
noted_at readers i n h number small = go (i == n) refl
  where
    go : (b : Bool) → (i == n) ≡ b
        → times h (slice_index_or (slice_set readers i (slice_index_or readers i [] ++ number ∷ [])) n []) ≡ times h (slice_index_or readers n []) + cond (i == n) (cond (number == h) 1 0) 0
    go true e =
        let more = times_more h number (slice_index_or readers i []) in
        grind (arith, common_steps, nat_tests)
    go false e = grind (arith, common_steps, nat_tests)

-- one more gate is read
pub inputs_step :
    (gates : List (Gate ℕ)) (k h n : ℕ) (g : Gate ℕ) → slice_get gates k ≡ Some g
    → times n (inputs_at (take (k + 1) gates) h) ≡ times n (inputs_at (take k gates) h) + cond (h == k) (times n g.ins) 0
inputs_step [] k h n g at = grind (arith, gets)
inputs_step (f ∷ gates) zero zero n g at = grind (arith, gets)
inputs_step (f ∷ gates) zero (suc h) n g at = grind (arith, gets)
inputs_step (f ∷ gates) (suc k) zero n g at = grind (arith, gets)
inputs_step (f ∷ gates) (suc k) (suc h) n g at = let rest = inputs_step gates k h n g at in grind (arith, gets, rest)

-- one item more is taken
pub times_taken : (xs : List ℕ) (i h : ℕ) → i < length xs → times h (take (i + 1) xs) ≡ times h (take i xs) + cond (slice_index xs i == h) 1 0
times_taken xs i h small = go (slice_index xs i == h) refl
  where
    go : (b : Bool) → (slice_index xs i == h) ≡ b → times h (take (i + 1) xs) ≡ times h (take i xs) + cond b 1 0
    go true e = count_by_more_yes (λ m. m == h) xs i 0 small e
    go false e = let same = count_by_more_no (λ m. m == h) xs i 0 small e in omega (arith, same)

pub times_front : (xs : List ℕ) (i h : ℕ) → times h (take i xs) ≤ times h xs
times_front xs i h = sum_by-take-le (λ m. cond (m == h) 1 0) xs i

-- what is read at a place stands there once more
pub times_here : (xs : List ℕ) (i : ℕ) → i < length xs → times (slice_index xs i) (take i xs) + 1 ≤ times (slice_index xs i) xs
times_here xs i small =
    let one = times_taken xs i (slice_index xs i) small in
    let front = times_front xs (i + 1) (slice_index xs i) in
    grind (arith, nat_tests)

-- one reader waits for one input less
pub lowered :
    (waits first readers : List ℕ) (i h : ℕ) → i < length readers → slice_index readers i < length waits → 1 ≤ slice_index waits (slice_index readers i)
    → slice_index waits h + times h (take i readers) ≡ slice_index first h
    → slice_index (slice_set waits (slice_index readers i) (slice_index waits (slice_index readers i) - 1)) h + times h (take (i + 1) readers) ≡ slice_index first h
lowered waits first readers i h small within some before =
    let one = times_taken readers i h small in
    by (slice_index readers i == h) refl one
  where
    by : (b : Bool) → (slice_index readers i == h) ≡ b → times h (take (i + 1) readers) ≡ times h (take i readers) + cond b 1 0
        → slice_index (slice_set waits (slice_index readers i) (slice_index waits (slice_index readers i) - 1)) h + times h (take (i + 1) readers) ≡ slice_index first h
    by true e one = grind (arith, common_steps, nat_tests)
    by false e one = grind (arith, common_steps, nat_tests)

-- the gate that is lowered is added where it waits for nothing then
pub queued :
    (waits first : List ℕ) (r h before start after : ℕ) → r < length waits → 1 ≤ slice_index waits r → slice_index waits r ≤ slice_index first r
    → before ≡ start + cond (slice_index waits h == 0 && not (slice_index first h == 0)) 1 0
    → after ≡ before + cond (slice_index waits r - 1 == 0) (cond (r == h) 1 0) 0
    → after ≡ start + cond (slice_index (slice_set waits r (slice_index waits r - 1)) h == 0 && not (slice_index first h == 0)) 1 0
queued waits first r h before start after within some under was is = by (r == h) refl
  where
    by : (b : Bool) → (r == h) ≡ b → after ≡ start + cond (slice_index (slice_set waits r (slice_index waits r - 1)) h == 0 && not (slice_index first h == 0)) 1 0
    by true e = grind (arith, common_steps, nat_tests)
    by false e = grind (arith, common_steps, nat_tests)
