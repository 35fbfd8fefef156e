-- The numbers of kept bits are their places.
use Rattle.std.proofs.Common.{◌≡◌, ◌≢◌, ℕ, ◌+◌, ◌<◌, suc, zero, nat_eq, List, [], ◌∷◌, length, drop, Bool, true, false, Some, slice_get, refl, sym, ap, ◌∙◌, arith, get_or-set_other, get_or-set_same, All, filter, not, cond, subst, ◌≤◌, ◌⊎◌, inl, inr}
use Rattle.std.proofs.lemmas.Bool.Decides.{nat_tests}
use Rattle.std.proofs.lemmas.Option.{slice_get_within, slice_get-get_or}
use Rattle.std.proofs.Math.ListN.{set, length-set}
use Rattle.std.proofs.lemmas.List.Elements.{recursion_from_All, All-from_recursion}
use Rattle.std.proofs.lemmas.List.Filters.{length-filter_both}
use Rattle.std.specs.List.{AllByRecursion, AllClonesOf}
use Rattle.bb_drive.specs.Origins.{is_marked}
use Rattle.bb_drive.specs.NamedOf.{place_among}

pub drop_pop : {X : Type 0} (xs : List X) (n : ℕ) (x : X) → slice_get xs n ≡ Some x → drop n xs ≡ x ∷ drop (n + 1) xs
drop_pop [] n x h = cc
drop_pop (y ∷ ys) zero x h = let one : y ≡ x = cc in ap (λ k. k ∷ ys) one
drop_pop (y ∷ ys) (suc n) x h =
    let e : suc n + 1 ≡ suc (n + 1) = omega arith in
    drop_pop ys n x h ∙ ap (λ k. x ∷ drop k (y ∷ ys)) (sym e)

-- a bit's place where it stands first, and where it doesn't
pub place_here : (bits : List ℕ) (b x : ℕ) → nat_eq b x ≡ true → place_among (x ∷ bits) b ≡ 0
place_here bits b x h = grind (arith, h)

pub place_behind : (bits : List ℕ) (b x : ℕ) → nat_eq b x ≡ false → place_among (x ∷ bits) b ≡ place_among bits b + 1
place_behind bits b x h = grind (arith, h)

-- one more place is put
pub put_step : (before : List ℕ) (kept : List ℕ) (i bit b : ℕ) → slice_get kept i ≡ Some bit → bit < length before → slice_get before b ≡ Some (place_among (drop (i + 1) kept) b + (i + 1))
    → slice_get (set before bit i) b ≡ Some (place_among (drop i kept) b + i)
put_step before kept i bit b at within h = by (nat_eq b bit) refl ∙ ap (λ ks. Some (place_among ks b + i)) (sym (drop_pop kept i bit at))
  where
    by : (t : Bool) → nat_eq b bit ≡ t → slice_get (set before bit i) b ≡ Some (place_among (bit ∷ drop (i + 1) kept) b + i)
    by true t =
        let same : b ≡ bit = grind (arith, nat_tests) in
        let place : i ≡ place_among (bit ∷ drop (i + 1) kept) b + i = omega (arith, place_here (drop (i + 1) kept) b bit t) in
        ap (slice_get (set before bit i)) same ∙ slice_get-get_or (set before bit i) bit 0 (omega (arith, length-set before bit i)) ∙ ap Some (get_or-set_same before bit i 0 within) ∙ ap Some place
    by false t =
        let apart : b ≢ bit = λ same. absurd (grind (arith, nat_tests)) in
        let there = slice_get_within before b _ h in
        let place : place_among (drop (i + 1) kept) b + (i + 1) ≡ place_among (bit ∷ drop (i + 1) kept) b + i = omega (arith, place_behind (drop (i + 1) kept) b bit t) in
        slice_get-get_or (set before bit i) b 0 (omega (arith, length-set before bit i)) ∙ ap Some (get_or-set_other before bit b i 0 apart) ∙ sym (slice_get-get_or before b 0 there) ∙ h ∙ ap Some place

-- a filter of a list is no longer, and what holds of all items holds of those that pass
pub filter_short : {X : Type 0} (p : X → Bool) (xs : List X) → length (filter p xs) ≤ length xs
filter_short p xs = omega (arith, length-filter_both p (λ x. not (p x)) (λ x. refl) xs)

pub all_filter : {X : Type 0} (P : X → Type 0) (p : X → Bool) (xs : List X) → AllByRecursion P xs → AllByRecursion P (filter p xs)
all_filter P p [] h = tt
all_filter P p (x ∷ xs) h = by (p x) (all_filter P p xs h.1)
  where
    by : (t : Bool) → AllByRecursion P (filter p xs) → AllByRecursion P (cond t (x ∷ filter p xs) (filter p xs))
    by true k = (h.0, k)
    by false k = k

-- the flagged bits are below what all are below
pub flagged_below : (flags : List Bool) (bits kept : List ℕ) (fresh n : ℕ) → All (λ b. b < fresh) bits → kept ≡ filter (is_marked flags) bits → n ≡ fresh → All (λ b. b < n) kept
flagged_below flags bits kept fresh n h e same =
    subst (All (λ b. b < n)) (sym e) (subst (λ k. All (λ b. b < k) (filter (is_marked flags) bits)) (sym same)
    (All-from_recursion (λ b. b < fresh) (filter (is_marked flags) bits) (all_filter (λ b. b < fresh) (is_marked flags) bits (recursion_from_All (λ b. b < fresh) bits h))))

-- clones of one number are that number
pub clones_at : (clones : ℕ → ℕ → Type 0) (x : ℕ) → ((y : ℕ) → clones x y → y ≡ x) → (ys : List ℕ) → AllClonesOf clones x ys → (b : ℕ) → b < length ys → slice_get ys b ≡ Some x
clones_at clones x e [] h b less = absurd (omega arith)
clones_at clones x e (y ∷ ys) h zero less = ap Some (either h.0)
  where
    either : (y ≡ x) ⊎ clones x y → y ≡ x
    either (inl k) = k
    either (inr k) = e y k
clones_at clones x e (y ∷ ys) h (suc b) less = clones_at clones x e ys h.1 b (omega arith)
