-- marks: what one call more adds, and what the first place without a mark is
use Rattle.std.proofs.Common.{◌≡◌, ℕ, ◌+◌, ◌<◌, ◌≤◌, ◌^◌, ◌↔◌, zero, suc, min, List, [], ◌∷◌, ◌++◌, length, map, take, get_or, Bool, true, false, refl, sym, ap, ◌∙◌, subst, arith, bit_xor, ◌⊎◌, inl, inr, ⊎_elim, set, replicate, Option, Some, None, get_or-set_same, get_or-set_other}
use Rattle.std.specs.Option.{MatchOption}
use Rattle.std.proofs.lemmas.Bool.{cases_lt, cases_eq, both_ways}
use Rattle.std.proofs.lemmas.List.{map_more, length-set, length-replicate, get_or-replicate}
use Rattle.std.proofs.lemmas.Nat.{pow_pos}
use Rattle.std.specs.List.{AllByRecursion}
use Rattle.bb_base.specs.Span.{IsInSpan, IsInCoset}
use Rattle.bb_base.specs.Firsts.{IsLeast}
use Rattle.bb_code.specs.Columns.{IsFree}
use Rattle.bb_code.specs.Marks.{sizes, IsInside}
use Rattle.bb_code.proofs.Spans.{coset_split, coset_without, coset_with}
use Rattle.bb_code.proofs.Bound.{bound_with_zero}

-- new has the marks of old and those of more
abbrev pub HasMore : (old new : List Bool) (more : ℕ → Type 0) → Type 0
HasMore old new more = (w : ℕ) → w < length old → (get_or new w true ≡ true) ↔ ((get_or old w true ≡ true) ⊎ more w)

-- the two halves of a coset mark the whole
pub mark_step : (old mid new : List Bool) (r v : ℕ) (rest rows : List ℕ) → rows ≡ r ∷ rest → length mid ≡ length old
    → HasMore old mid (IsInCoset rest v) → HasMore mid new (IsInCoset rest (bit_xor v r)) → HasMore old new (IsInCoset rows v)
mark_step old mid new r v rest rows e long first second =
    subst (λ rs. HasMore old new (IsInCoset rs v)) (sym e) (λ w lt.
    let one = first w lt in
    let two = second w (omega (arith, lt, long)) in (
      λ marked. ⊎_elim (λ was. ⊎_elim inl (λ c. inr (coset_without r rest v w c)) (one.0 was)) (λ c. inr (coset_with r rest v w c)) (two.0 marked),
      λ h. ⊎_elim (λ was. two.1 (inl (one.1 (inl was)))) (λ c. ⊎_elim (λ a. two.1 (inl (one.1 (inr a)))) (λ b. two.1 (inr b)) (coset_split r rest v w c)) h,
    ))

-- being inside some lists, with one list more
inside_push : (spans : List (List ℕ)) (rows : List ℕ) (w : ℕ) → IsInside (spans ++ rows ∷ []) w → IsInside spans w ⊎ IsInSpan rows w
inside_push [] rows w h = ⊎_elim inr (λ none. absurd none) h
inside_push (first ∷ spans) rows w h = ⊎_elim (λ a. inl (inl a)) (λ b. ⊎_elim (λ c. inl (inr c)) inr (inside_push spans rows w b)) h

inside_before : (spans : List (List ℕ)) (rows : List ℕ) (w : ℕ) → IsInside spans w → IsInside (spans ++ rows ∷ []) w
inside_before [] rows w h = absurd h
inside_before (first ∷ spans) rows w h = ⊎_elim inl (λ b. inr (inside_before spans rows w b)) h

inside_last : (spans : List (List ℕ)) (rows : List ℕ) (w : ℕ) → IsInSpan rows w → IsInside (spans ++ rows ∷ []) w
inside_last [] rows w h = inl h
inside_last (first ∷ spans) rows w h = inr (inside_last spans rows w h)

-- the marks of one list more
pub span_step : (old mid new : List Bool) (spans : List (List ℕ)) (rows : List ℕ) → length mid ≡ length old
    → HasMore old mid (IsInside spans) → HasMore mid new (IsInCoset rows 0) → HasMore old new (IsInside (spans ++ rows ∷ []))
span_step old mid new spans rows long first second w lt =
    let one = first w lt in
    let two = second w (omega (arith, lt, long)) in (
      λ marked. ⊎_elim (λ was. ⊎_elim inl (λ c. inr (inside_before spans rows w c)) (one.0 was)) (λ c. inr (inside_last spans rows w c)) (two.0 marked),
      λ h. ⊎_elim (λ was. two.1 (inl (one.1 (inl was)))) (λ c. ⊎_elim (λ a. two.1 (inl (one.1 (inr a)))) (λ b. two.1 (inr b)) (inside_push spans rows w c)) h,
    )

-- being outside each list is being inside none
pub outside_from_none : (spans : List (List ℕ)) (w : ℕ) → (IsInside spans w → ⊥) → AllByRecursion (λ rows. IsInSpan rows w → ⊥) spans
outside_from_none [] w h = tt
outside_from_none (rows ∷ spans) w h = (λ s. h (inl s), outside_from_none spans w (λ i. h (inr i)))

pub none_from_outside : (spans : List (List ℕ)) (w : ℕ) → AllByRecursion (λ rows. IsInSpan rows w → ⊥) spans → IsInside spans w → ⊥
none_from_outside [] w h i = i
none_from_outside (rows ∷ spans) w h i = ⊎_elim h.0 (none_from_outside spans w h.1) i

-- the sizes with one list more
pub sizes_push : (spans : List (List ℕ)) (rows : List ℕ) → sizes (spans ++ rows ∷ []) ≡ sizes spans + 2 ^ length rows
sizes_push [] rows = omega arith
sizes_push (first ∷ spans) rows = let e = sizes_push spans rows in omega (arith, e)

-- the items of a list that a loop has read, with the next one
pub read_more : {X : Type 0} (f : X → List ℕ) (xs : List X) (i : ℕ) (x : X) → i < length xs → x ≡ get_or xs i x
    → map f (take (i + 1) xs) ≡ map f (take i xs) ++ f x ∷ []
read_more f xs i x lt e = map_more f xs i x lt ∙ ap (λ y. map f (take i xs) ++ f y ∷ []) (sym e)

-- room for one list more, as far as it is wanted
pub room_more : (most room total : ℕ) (spans : List (List ℕ)) (rows : List ℕ) → room ≡ min most (2 + sizes spans)
    → total ≡ min most (room + 2 ^ length rows) → total ≡ min most (2 + sizes (spans ++ rows ∷ []))
room_more most room total spans rows e h =
    let pushed = sizes_push spans rows in
    omega (arith, e, h, pushed)

-- a place that a list of marks has, where one mark was put at 0
pub zero_marked : (n w : ℕ) (marks : List Bool) → marks ≡ set (replicate n false) 0 true → w < n → get_or marks w true ≡ true → w ≡ 0
zero_marked n zero marks e lt h = refl
zero_marked n (suc w) marks e lt h =
    absurd (both_ways (get_or marks (suc w) true) (ap (λ ms. get_or ms (suc w) true) e ∙ get_or-set_other (replicate n false) 0 (suc w) true true (λ s. omega (arith, s)) ∙ get_or-replicate n (suc w) false true lt) h)

pub record AreMarks (room : ℕ) (spans : List (List ℕ)) (marks : List Bool) : Type 0 where
  pub long : length marks ≡ room
  pub inside : (w : ℕ) → w < room → get_or marks w true ≡ true → (w ≡ 0) ⊎ IsInside spans w
  pub marked : (w : ℕ) → w < room → (w ≡ 0) ⊎ IsInside spans w → get_or marks w true ≡ true

-- marks on 0 and on what is inside
are_marks : (room : ℕ) (spans : List (List ℕ)) (first marks : List Bool) → 0 < room → first ≡ set (replicate room false) 0 true → length marks ≡ length first
    → HasMore first marks (IsInside spans) → AreMarks room spans marks
are_marks room spans first marks some e long h =
    let n = ap length e ∙ length-set (replicate room false) 0 true ∙ length-replicate room false in
    let here : 0 < length (replicate room false) = subst (λ k. 0 < k) (sym (length-replicate room false)) some in
    let zero_is : get_or first 0 true ≡ true = ap (λ ms. get_or ms 0 true) e ∙ get_or-set_same (replicate room false) 0 true true here in
    record {
      long = long ∙ n;
      inside = λ w lt m. ⊎_elim (λ was. inl (zero_marked room w first e lt was)) inr ((h w (omega (arith, lt, n))).0 m);
      marked = λ w lt i.
          (h w (omega (arith, lt, n))).1
          (⊎_elim (λ none. inl (subst (λ k. get_or first k true ≡ true) (sym none) zero_is)) inr i);
    }

-- where all places are marked no column is free
pub none_free : (degree room : ℕ) (spans : List (List ℕ)) (marks : List Bool) → room ≡ min (2 ^ degree) (2 + sizes spans) → AreMarks room spans marks
    → ((w : ℕ) → w < length marks → get_or marks w true ≡ true) → (v : ℕ) → IsFree degree spans v → ⊥
none_free degree room spans marks e h all v free = go (cases_lt v room)
  where
    long : length marks ≡ room
    long = h.long

    taken : (w : ℕ) → w < room → IsFree degree spans w → ⊥
    taken w lt f =
        ⊎_elim (λ none. let some = f.nonzero in absurd (omega (arith, none, some))) (none_from_outside spans w f.outside) (h.inside w lt (all w (omega (arith, lt, long))))

    go : (v < room) ⊎ (room ≤ v) → ⊥
    go (inl lt) = taken v lt free
    go (inr le) =
        let fits = free.fits in
        let short = bound_with_zero degree room spans (omega (arith, e)) taken in
        omega (arith, le, fits, short, e)

-- the first place without a mark is the least free column
pub first_free : (degree room : ℕ) (spans : List (List ℕ)) (marks : List Bool) (v : ℕ) → room ≡ min (2 ^ degree) (2 + sizes spans) → AreMarks room spans marks
    → v < length marks → get_or marks v true ≡ false → ((w : ℕ) → w < v → get_or marks w true ≡ true) → IsLeast (IsFree degree spans) v
first_free degree room spans marks v e h lt clear before =
    let long = h.long in
    let within : v < room = omega (arith, lt, long) in
    let unmarked : (w : ℕ) → w ≡ v → (w ≡ 0) ⊎ IsInside spans w → ⊥ = λ w s i. both_ways (get_or marks v true) clear (h.marked v within (subst (λ k. (k ≡ 0) ⊎ IsInside spans k) s i)) in
    record {
      holds = record {
        nonzero = ⊎_elim (λ none. absurd (unmarked v refl (inl none))) (λ some. omega (arith, some)) (cases_eq v 0);
        fits = omega (arith, within, e);
        outside = outside_from_none spans v (λ i. unmarked v refl (inr i));
      };
      least = λ m free.
          ⊎_elim (λ less.
          ⊎_elim (λ none. let some = free.nonzero in absurd (omega (arith, none, some))) (λ i. absurd (none_from_outside spans m free.outside i))
          (h.inside m (omega (arith, less, within)) (before m less)))
          (λ le. le) (cases_lt m v);
    }

-- what the first place without a mark, or none, says of the columns
pub least_of_marks : (degree room : ℕ) (spans : List (List ℕ)) (first marks : List Bool) (o : Option ℕ) → 1 ≤ degree → room ≡ min (2 ^ degree) (2 + sizes spans)
    → first ≡ set (replicate room false) 0 true → length marks ≡ length first → HasMore first marks (IsInside spans)
    → MatchOption o ((w : ℕ) → w < length marks → get_or marks w true ≡ true)
    (λ v. (v < length marks) × (get_or marks v true ≡ false) × ((w : ℕ) → w < v → get_or marks w true ≡ true))
    → MatchOption o ((v : ℕ) → IsFree degree spans v → ⊥) (IsLeast (IsFree degree spans))
least_of_marks degree room spans first marks o some e put long h found =
    let size = pow_pos degree in
    let marks_are = are_marks room spans first marks (omega (arith, e, size)) put long h in
    go o found marks_are
  where
    go : (o : Option ℕ) → MatchOption o ((w : ℕ) → w < length marks → get_or marks w true ≡ true)
        (λ v. (v < length marks) × (get_or marks v true ≡ false) × ((w : ℕ) → w < v → get_or marks w true ≡ true)) → AreMarks room spans marks
        → MatchOption o ((v : ℕ) → IsFree degree spans v → ⊥) (IsLeast (IsFree degree spans))
    go None all m = none_free degree room spans marks e m all
    go (Some v) at m = first_free degree room spans marks v e m at.0 at.1 at.2
