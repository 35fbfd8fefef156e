-- The first item of a list at which a fact fails, as loops find it.
use Rattle.std.proofs.Common.{◌≡◌, ℕ, ◌+◌, ◌<◌, ◌≤◌, Bool, true, false, List, length, get_or, slice_get, Some, refl, sym, ap, subst, ◌∙◌, arith, nat_lt}
use Rattle.std.proofs.lemmas.Bool.Decides.{nat_tests}
use Rattle.std.proofs.lemmas.Option.{slice_get_within, slice_get-get_or}
use Rattle.std.specs.List.{range_with_len}
use Rattle.bb_base.specs.Places.{EachAt, IsFirstWrong}
use Rattle.bb_plan.proofs.Items.{range_has, range_at}

-- the fact holds of each item before a place
abbrev pub HoldsBefore : {X : Type 0} → List X → (ℕ → X → Type 0) → ℕ → Type 0
HoldsBefore {X} xs P n = (i : ℕ) (x : X) → i < n → slice_get xs i ≡ Some x → P i x

-- the item that is read at a place stands there
pub item_at : {X : Type 0} (xs : List X) (n : ℕ) (x : X) → n < length xs → x ≡ get_or xs n x → slice_get xs n ≡ Some x
item_at xs n x less is = slice_get-get_or xs n x less ∙ ap Some (sym is)

pub wrong_here : {X : Type 0} (xs : List X) (P : ℕ → X → Type 0) (n : ℕ) (x : X) → HoldsBefore xs P n → slice_get xs n ≡ Some x → (P n x → ⊥) → IsFirstWrong xs P n
wrong_here xs P n x before at wrong = record { item = x; stands = at; wrong = wrong; before = before }

pub none_wrong : {X : Type 0} (xs : List X) (P : ℕ → X → Type 0) (n : ℕ) → HoldsBefore xs P n → length xs ≤ n → EachAt xs P
none_wrong xs P n before past i x at = before i x (let within = slice_get_within xs i x at in omega (arith, within, past)) at

pub one_more : {X : Type 0} (xs : List X) (P : ℕ → X → Type 0) (n : ℕ) (x : X) → HoldsBefore xs P n → slice_get xs n ≡ Some x → P n x → HoldsBefore xs P (n + 1)
one_more {X} xs P n x before at holds i y less stands = by (nat_lt i n) refl
  where
    by : (b : Bool) → nat_lt i n ≡ b → P i y
    by true e = before i y (grind (arith, nat_tests, e)) stands
    by false e =
        let here : n ≡ i = grind (arith, nat_tests, e, less) in
        let both : Some x ≡ Some y = sym at ∙ ap (slice_get xs) here ∙ stands in
        let same : x ≡ y = cc both in
        subst (λ k. P k y) here (subst (P n) same holds)

-- the same of all numbers below a count
pub number_wrong : (count : ℕ) (P : ℕ → Type 0) (n : ℕ) → n < count → ((m : ℕ) → m < n → P m) → (P n → ⊥) → IsFirstWrong (range_with_len 0 count) (λ i m. P m) n
number_wrong count P n less before wrong = record {
  item = n;
  stands = let e : 0 + n ≡ n = omega arith in range_has 0 count n less ∙ ap Some e;
  wrong = wrong;
  before = λ i m below at.
      let there = range_at 0 count i m at in
      let same = there.1 in
      before m (omega (arith, same, below));
}

pub each_number : (count : ℕ) (P : ℕ → Type 0) → ((m : ℕ) → m < count → P m) → EachAt (range_with_len 0 count) (λ i m. P m)
each_number count P all i m at =
    let there = range_at 0 count i m at in
    let less = there.0 in
    let same = there.1 in
    all m (omega (arith, less, same))
