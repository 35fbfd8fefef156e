-- Gates made one after the other, by lists of operands and the places where they go.
use Rattle.std.proofs.Common.{arith, ◌≡◌, ℕ, zero, suc, ◌+◌, ◌≤◌, List, [], ◌∷◌, ◌++◌, drop, length, get_or, ◌<◌, refl, sym, ap, ◌∙◌}
use Rattle.std.proofs.lemmas.Grind.{common_steps}
use Rattle.std.specs.Prelude.{Option, Some, None, slice_get, IfSome, MatchOption}
use Rattle.std.specs.List.{HoldsAt}
use Rattle.std.specs.Option.{option_copied}
use Rattle.std.specs.Borrow.{Bor}
use Rattle.std.proofs.lemmas.Option.{slice_get_past, slice_get_read}
use Rattle.bb_fault.specs.Work.{Work, Makes}
use Rattle.bb_scope.specs.Making.{Outs, New, To, first_out, other_outs, each_choice}
use Rattle.bb_gates.specs.Targets.{outs_after, one_choice}

-- where each gate goes

after_new : (n : ℕ) → outs_after n New ≡ New
after_new zero = refl
after_new (suc n) = after_new n

-- each to a new net
pub new_first : (n : ℕ) → first_out (outs_after n New) ≡ None
new_first n = ap first_out (after_new n)

-- each to the target of its place, where there is one
pub target_first : (n : ℕ) (targets : List ℕ) → first_out (outs_after n (To targets)) ≡ slice_get targets n
target_first zero [] = refl
target_first zero (t ∷ targets) = refl
target_first (suc n) [] = new_first n
target_first (suc n) (t ∷ targets) = target_first n targets

-- one gate more
next : (n : ℕ) (outs : Outs) → outs_after (suc n) outs ≡ other_outs (outs_after n outs)
next zero outs = refl
next (suc n) outs = next n (other_outs outs)

pub after_next : (n : ℕ) (outs : Outs) → outs_after (n + 1) outs ≡ other_outs (outs_after n outs)
after_next n outs = ap (λ k. outs_after k outs) (one_more n) ∙ next n outs
  where
    one_more : (n : ℕ) → n + 1 ≡ suc n
    one_more n = omega arith

-- what `get` answers is what stands there
pub got :
    (xs : List ℕ) (i : ℕ) (r : Option (Bor ℕ)) → IfSome r (λ x. x.now ≡ get_or xs i x.now) → MatchOption r (length xs ≤ i) (λ x. (i < length xs) × HoldsAt (λ y. x.now ≡ y) xs i)
    → option_copied r ≡ slice_get xs i
got xs i None read past = sym (slice_get_past xs i past)
got xs i (Some x) read past = sym (slice_get_read xs (length xs) i x.now refl past.0 read)

-- a choice between two bits, and then the others
choice_next :
    (c : List ℕ) (n : ℕ) (xs ys : List ℕ) (i a b : ℕ) (outs : Outs) (w : Work) → drop i xs ≡ a ∷ drop (i + 1) xs → drop i ys ≡ b ∷ drop (i + 1) ys
    → each_choice c n (drop i xs) (drop i ys) (outs_after i outs) w
    ≡ each_choice c n (a ∷ drop (i + 1) xs) (b ∷ drop (i + 1) ys) (outs_after i outs) w
choice_next c n xs ys i a b outs w h k = λ j. each_choice c n (h j) (k j) (outs_after i outs) w

-- a loop over makers goes on
goes_on :
    (step : Work → ℕ × Work) (rest : Work → List ℕ × Work) (w new : Work) (net : ℕ) (before after all : List ℕ) → Makes step w net new → after ≡ before ++ net ∷ []
    → before ++ ((step w).0 ∷ (rest (step w).1).0) ≡ all → after ++ (rest new).0 ≡ all
goes_on step rest w new net before after all made more h =
    let same : (rest new).0 ≡ (rest (step w).1).0 = ap (λ v. (rest v).0) made.work in
    grind (arith, common_steps, same, made.value, more, h)

-- the same of a loop over choices
pub choice_goes_on :
    (c : List ℕ) (n : ℕ) (xs ys : List ℕ) (i a b : ℕ) (outs : Outs) (w new : Work) (net : ℕ) (target : Option ℕ) (before after : List ℕ) (all : List ℕ × Work)
    → drop i xs ≡ a ∷ drop (i + 1) xs → drop i ys ≡ b ∷ drop (i + 1) ys → target ≡ first_out (outs_after i outs) → Makes (one_choice c n a b target) w net new → after ≡ before ++ net ∷ []
    → before ++ (each_choice c n (drop i xs) (drop i ys) (outs_after i outs) w).0 ≡ all.0 → (each_choice c n (drop i xs) (drop i ys) (outs_after i outs) w).1 ≡ all.1
    → (after ++ (each_choice c n (drop (i + 1) xs) (drop (i + 1) ys) (outs_after (i + 1) outs) new).0 ≡ all.0)
    × ((each_choice c n (drop (i + 1) xs) (drop (i + 1) ys) (outs_after (i + 1) outs) new).1 ≡ all.1)
choice_goes_on c n xs ys i a b outs w new net target before after all h k t given more value work =
    let step = one_choice c n a b (first_out (outs_after i outs)) in
    let rest = each_choice c n (drop (i + 1) xs) (drop (i + 1) ys) in
    let o : outs_after (i + 1) outs ≡ other_outs (outs_after i outs) = after_next i outs in
    let made : Makes step w net new =
    record { value = given.value ∙ ap (λ t. (one_choice c n a b t w).0) t; work = given.work ∙ ap (λ t. (one_choice c n a b t w).1) t } in
    let e = choice_next c n xs ys i a b outs w h k in (
      ap (λ o. after ++ (rest o new).0) o ∙ goes_on step (rest (other_outs (outs_after i outs))) w new net before after all.0 made more (ap (λ z. before ++ z.0) (sym e) ∙ value),
      ap (λ o. (rest o new).1) o ∙ (ap (λ v. (rest (other_outs (outs_after i outs)) v).1) made.work ∙ (ap (λ z. z.1) (sym e) ∙ work)),
    )
