-- Sources in runs: each run but the last is full.
use Rattle.std.proofs.Common.{arith, ◌≡◌, ℕ, zero, suc, ◌+◌, ◌<◌, ◌≤◌, Bool, true, false, List, [], ◌∷◌, ◌++◌, length, map, take, drop, refl, sym, ap, ◌∙◌, nat_lt, if◌then◌else◌, append-nil, append_assoc, length-append, min}
use Rattle.std.specs.List.{fold}
use Rattle.std.proofs.lemmas.Bool.Decides.{nat_tests}
use Rattle.std.proofs.lemmas.List.{take_min}
use Rattle.bb_terms.specs.declared.plan.Cell.{Cell}
use Rattle.bb_terms.specs.Plan.{RegisterValue}
use Rattle.bb_reg.specs.Chosen.{first_fit, in_runs, register_of}

module _ (most : ℕ) where
  room : Cell → List Cell → Bool
  room c run = nat_lt (length run) most

  -- a full run stays as it is
  behind_full : (run : List Cell) (runs : List (List Cell)) (xs : List Cell) → most ≤ length run → fold (first_fit (λ c run. nat_lt (length run) most)) (run ∷ runs) xs ≡ run ∷ fold (first_fit (λ c run. nat_lt (length run) most)) runs xs
  behind_full run runs [] full = refl
  behind_full run runs (x ∷ xs) full =
      let no : nat_lt (length run) most ≡ false = grind (arith, nat_tests, full) in
      ap (λ (b : Bool). fold (first_fit (λ c run. nat_lt (length run) most)) (if b then (run ++ x ∷ []) ∷ runs else run ∷ first_fit (λ c run. nat_lt (length run) most) runs x) xs) no
      ∙ behind_full run (first_fit (λ c run. nat_lt (length run) most) runs x) xs full

  -- a run is filled before the next one begins
  filled : (run xs : List Cell) (n : ℕ) → length run + n ≡ most → fold (first_fit (λ c run. nat_lt (length run) most)) (run ∷ []) xs ≡ (run ++ take n xs) ∷ fold (first_fit (λ c run. nat_lt (length run) most)) [] (drop n xs)
  filled run xs zero count = behind_full run [] xs (omega (arith, count)) ∙ ap (λ k. k ∷ fold (first_fit (λ c run. nat_lt (length run) most)) [] xs) (sym (append-nil run))
  filled run [] (suc n) count = ap (λ k. k ∷ []) (sym (append-nil run))
  filled run (x ∷ xs) (suc n) count =
      let yes : nat_lt (length run) most ≡ true = grind (arith, nat_tests, count) in
      ap (λ (b : Bool). fold (first_fit (λ c run. nat_lt (length run) most)) (if b then (run ++ x ∷ []) ∷ [] else run ∷ (x ∷ []) ∷ []) xs) yes
      ∙ filled (run ++ x ∷ []) xs n (omega (arith, count, length-append run (x ∷ [])))
      ∙ ap (λ k. k ∷ fold (first_fit (λ c run. nat_lt (length run) most)) [] (drop n xs)) (append_assoc run (x ∷ []) (take n xs))

-- the first run, and those behind it
pub runs_next : (most : ℕ) (xs : List Cell) → 0 < most → 0 < length xs → in_runs most xs ≡ take most xs ∷ in_runs most (drop most xs)
runs_next most [] some items = absurd (omega (arith, items))
runs_next zero (x ∷ xs) some items = absurd (omega (arith, some))
runs_next (suc n) (x ∷ xs) some items = filled (suc n) (x ∷ []) xs n (omega arith)

drop_past : {X : Type 0} (n : ℕ) (xs : List X) → length xs ≤ n → drop n xs ≡ []
drop_past zero [] h = refl
drop_past (suc n) [] h = refl
drop_past zero (x ∷ xs) h = absurd (omega (arith, h))
drop_past (suc n) (x ∷ xs) h = drop_past n xs (omega (arith, h))

drop_min : {X : Type 0} (n : ℕ) (xs : List X) → drop (min n (length xs)) xs ≡ drop n xs
drop_min n xs = by (nat_lt n (length xs)) refl
  where
    by : (b : Bool) → nat_lt n (length xs) ≡ b → drop (min n (length xs)) xs ≡ drop n xs
    by true e = let low : n < length xs = grind (arith, nat_tests, e) in let m : min n (length xs) ≡ n = omega arith in ap (λ k. drop k xs) m
    by false e = let high : length xs ≤ n = grind (arith, nat_tests, e) in let m : min n (length xs) ≡ length xs = omega arith in ap (λ k. drop k xs) m ∙ drop_past (length xs) xs (omega arith) ∙ sym (drop_past n xs high)

pub runs_split : (most n : ℕ) (xs : List Cell) → 0 < most → 0 < length xs → n ≡ min most (length xs) → in_runs most xs ≡ take n xs ∷ in_runs most (drop n xs)
runs_split most n xs some items is = runs_next most xs some items ∙ (λ k. sym (ap (λ m. take m xs) is ∙ take_min most xs) k ∷ in_runs most (sym (ap (λ m. drop m xs) is ∙ drop_min most xs) k))

-- one more register, and those of the sources behind it
pub runs_pushed :
    (most n : ℕ) (registers registers' all : List RegisterValue) (rest run after : List Cell) (register : RegisterValue) → registers' ≡ registers ++ register ∷ [] → register ≡ register_of run → run ≡ take n rest → after ≡ drop n rest
    → 0 < most → 0 < length rest → n ≡ min most (length rest) → registers ++ map register_of (in_runs most rest) ≡ all → registers' ++ map register_of (in_runs most after) ≡ all
runs_pushed most n registers registers' all rest run after register pushed is run_is after_is some items count before =
    (λ k. pushed k ++ map register_of (in_runs most (after_is k)))
    ∙ append_assoc registers (register ∷ []) (map register_of (in_runs most (drop n rest)))
    ∙ ap (λ r. registers ++ r ∷ map register_of (in_runs most (drop n rest))) (is ∙ ap register_of run_is)
    ∙ ap (λ rs. registers ++ map register_of rs) (sym (runs_split most n rest some items count))
    ∙ before
