-- the least of a coset, and a span with one row more
use Rattle.std.proofs.Common.{◌≡◌, ℕ, ◌+◌, ◌-◌, ◌*◌, ◌/◌, ◌%◌, ◌^◌, ◌<◌, ◌≤◌, ◌==◌, ◌↔◌, zero, suc, min, List, [], ◌∷◌, ◌++◌, length, map, get_or, take, Bool, true, false, eqb, ◌||◌, refl, sym, ap, ◌∙◌, subst, arith, bit_xor, ◌⊎◌, inl, inr, length-append}
use Rattle.std.specs.Int.{bit_at}
use Rattle.std.specs.List.{list_any, IsDistinct}
use Rattle.std.proofs.lemmas.Bool.{cases_lt, ne_eqb, eqb-true}
use Rattle.std.proofs.lemmas.List.{get_or_append_left, get_or_push, take-append-le, take_at, take_more, get_or-map, get_or-take, length-map, length-take-le}
use Rattle.std.proofs.lemmas.Map.Keys.{IsDistinct-from_apart}
use Rattle.std.proofs.Math.Nat.{pow-suc}
use Rattle.std.proofs.lemmas.Map.Steps.{length-le_from_distinct_below}
use Rattle.std.proofs.lemmas.Nat.{shr_split, leading_top, pow_pos}
use Rattle.std.proofs.lemmas.Nat.Bits.{bit_at_above, bit_at_cat_high}
use lib.Bits.{xor_zero_r, xor_assoc, xor_self, xor_comm, xor_lt, xor_block}
use lib.Count.{count_leading_zeros}
use Rattle.bb_base.specs.Span.{combined, IsInSpan, IsInCoset}
use Rattle.bb_base.specs.Firsts.{IsLeast}
use Rattle.bb_gf2.specs.Reduced.{IsNewRow, IsReduced}
use Rattle.bb_gf2.proofs.Codes.{low_bit}
use Rattle.bb_gf2.proofs.Combine.{where_true, combined_cons, combined_none, combined_xor, combined_low, combined_push, xor_twice}
use Rattle.bb_gf2.proofs.Low.{Keeps, keeps_xor}

-- no member of the span lowers u
abbrev pub Kept : List ℕ → ℕ → Type 0
Kept xs u = (mask : ℕ) → u ≤ bit_xor u (combined mask xs)

pub kept_from_least : (xs : List ℕ) (v u : ℕ) → IsLeast (IsInCoset xs v) u → Kept xs u
kept_from_least xs v u h m =
    let from = h.holds.0 in
    h.least (bit_xor u (combined m xs))
    (bit_xor from m, ap (bit_xor v) (combined_xor from m xs) ∙ sym (xor_assoc v (combined from xs) (combined m xs)) ∙ ap (λ w. bit_xor w (combined m xs)) h.holds.1)

pub least_from_kept : (xs : List ℕ) (v u : ℕ) → IsInCoset xs v u → Kept xs u → IsLeast (IsInCoset xs v) u
least_from_kept xs v u h kept =
    record {
      holds = h;
      least = λ w there.
          let both = bit_xor h.0 there.0 in
          let here : bit_xor u (combined both xs) ≡ w =
          ap (bit_xor u) (combined_xor h.0 there.0 xs)
          ∙ ap (λ n. bit_xor n (bit_xor (combined h.0 xs) (combined there.0 xs))) (sym h.1)
          ∙ xor_assoc v (combined h.0 xs) (bit_xor (combined h.0 xs) (combined there.0 xs))
          ∙ ap (bit_xor v) (xor_twice (combined h.0 xs) (combined there.0 xs)) ∙ there.1 in
          subst (λ n. u ≤ n) here (kept both);
    }

-- the mask of a set of rows, and the last one where a test holds
pub push_mask : (xs : List ℕ) (r : ℕ) (b : Bool) (m : ℕ) → (n : ℕ) × (combined n (xs ++ r ∷ []) ≡ bit_xor (where_true b r) (combined m xs))
push_mask xs r b m = go b
  where
    low_below : m % 2 ^ length xs < 2 ^ length xs
    low_below = let some = pow_pos (length xs) in omega (arith, some)

    same : combined (m % 2 ^ length xs) xs ≡ combined m xs
    same = sym (combined_low xs (m / 2 ^ length xs) (m % 2 ^ length xs)) ∙ ap (λ n. combined n xs) (shr_split m (length xs))

    go : (b : Bool) → (n : ℕ) × (combined n (xs ++ r ∷ []) ≡ bit_xor (where_true b r) (combined m xs))
    go false =
        let low = m % 2 ^ length xs in
        (low, combined_push xs low r ∙ (λ i. bit_xor (where_true (bit_at_above low (length xs) (length xs) low_below (omega arith) i == 1) r) (same i)))
    go true =
        let low = m % 2 ^ length xs in
        let last : bit_at (1 * 2 ^ length xs + low) (length xs) ≡ 1 = bit_at_cat_high 1 (length xs) low (length xs) low_below (omega arith) ∙ one (length xs - length xs) (omega arith) in
        (1 * 2 ^ length xs + low, combined_push xs (1 * 2 ^ length xs + low) r ∙ (λ i. bit_xor (where_true (last i == 1) r) ((combined_low xs 1 low ∙ same) i)))
      where
        one : (k : ℕ) → k ≡ 0 → bit_at 1 k ≡ 1
        one k e = ap (bit_at 1) e

-- and the first one
pub cons_mask : (xs : List ℕ) (r : ℕ) (b : Bool) (m : ℕ) → (n : ℕ) × (combined n (r ∷ xs) ≡ bit_xor (where_true b r) (combined m xs))
cons_mask xs r true m =
    let odd : (2 * m + 1) % 2 ≡ 1 = omega arith in
    let half : (2 * m + 1) / 2 ≡ m = omega arith in
    (2 * m + 1, combined_cons (2 * m + 1) r xs ∙ (λ i. bit_xor (where_true (odd i == 1) r) (combined (half i) xs)))
cons_mask xs r false m =
    let even : (2 * m) % 2 ≡ 0 = omega arith in
    let half : (2 * m) / 2 ≡ m = omega arith in
    (2 * m, combined_cons (2 * m) r xs ∙ (λ i. bit_xor (where_true (even i == 1) r) (combined (half i) xs)))

-- ---- the loop of the least

-- a member of the span with one row more, with that row or without, doesn't lower w
abbrev IsKeptBy : List ℕ → ℕ → ℕ → Bool → ℕ → Type 0
IsKeptBy xs r m b w = w ≤ bit_xor w (bit_xor (where_true b r) (combined m xs))

-- the lesser of two that differ by a row is kept by the span with that row
kept_min : (xs : List ℕ) (r u : ℕ) → Kept xs r → Kept xs u → Kept (xs ++ r ∷ []) (min u (bit_xor u r))
kept_min xs r u fresh kept m =
    subst (λ w. min u (bit_xor u r) ≤ bit_xor (min u (bit_xor u r)) w) (sym (combined_push xs m r)) (go (bit_at m (length xs) == 1) (cases_lt (bit_xor u r) u))
  where
    other : Keeps (combined m xs) (bit_xor u r)
    other = keeps_xor (combined m xs) u r (kept m) (fresh m)

    at_other : (b : Bool) → bit_xor u r ≤ u → IsKeptBy xs r m b (bit_xor u r)
    at_other false le = other
    at_other true le =
        let back : bit_xor (bit_xor u r) (bit_xor r (combined m xs)) ≡ bit_xor u (combined m xs) = xor_assoc u r (bit_xor r (combined m xs)) ∙ ap (bit_xor u) (xor_twice r (combined m xs)) in
        omega (arith, back, le, kept m)

    at_first : (b : Bool) → u ≤ bit_xor u r → IsKeptBy xs r m b u
    at_first false le = kept m
    at_first true le =
        let on : bit_xor u (bit_xor r (combined m xs)) ≡ bit_xor (bit_xor u r) (combined m xs) = sym (xor_assoc u r (combined m xs)) in
        omega (arith, on, le, other)

    go : (b : Bool) → (bit_xor u r < u) ⊎ (u ≤ bit_xor u r) → IsKeptBy xs r m b (min u (bit_xor u r))
    go b (inl lt) = let e : bit_xor u r ≡ min u (bit_xor u r) = omega (arith, lt) in subst (IsKeptBy xs r m b) e (at_other b (omega (arith, lt)))
    go b (inr le) = let e : u ≡ min u (bit_xor u r) = omega (arith, le) in subst (IsKeptBy xs r m b) e (at_first b le)

coset_min : (xs : List ℕ) (r v u : ℕ) → IsInCoset xs v u → IsInCoset (xs ++ r ∷ []) v (min u (bit_xor u r))
coset_min xs r v u h = go (cases_lt (bit_xor u r) u)
  where
    go : (bit_xor u r < u) ⊎ (u ≤ bit_xor u r) → IsInCoset (xs ++ r ∷ []) v (min u (bit_xor u r))
    go (inl lt) =
        let e : bit_xor u r ≡ min u (bit_xor u r) = omega (arith, lt) in
        let n = push_mask xs r true h.0 in
        (n.0, ap (bit_xor v) (n.1 ∙ xor_comm r (combined h.0 xs)) ∙ sym (xor_assoc v (combined h.0 xs) r) ∙ ap (λ w. bit_xor w r) h.1 ∙ e)
    go (inr le) =
        let e : u ≡ min u (bit_xor u r) = omega (arith, le) in
        let n = push_mask xs r false h.0 in
        (n.0, ap (bit_xor v) n.1 ∙ h.1 ∙ e)

pub least_more : (rows : List ℕ) (i v u : ℕ) → i < length rows → IsReduced rows → IsLeast (IsInCoset (take i rows) v) u
    → IsLeast (IsInCoset (take (i + 1) rows) v) (min u (bit_xor u (get_or rows i 0)))
least_more rows i v u lt reduced h =
    let r = get_or rows i 0 in
    let xs = take i rows in
    subst (λ ys. IsLeast (IsInCoset ys v) (min u (bit_xor u r))) (sym (take_more rows i 0 lt))
    (least_from_kept (xs ++ r ∷ []) v (min u (bit_xor u r)) (coset_min xs r v u h.holds) (kept_min xs r u (reduced i lt).least (kept_from_least xs v u h)))

-- ---- one vector more

span_from_push : (xs : List ℕ) (v u m0 : ℕ) → bit_xor v (combined m0 xs) ≡ u → (w : ℕ) → IsInSpan (xs ++ u ∷ []) w → IsInSpan (v ∷ xs) w
span_from_push xs v u m0 is w (m, e) = go (bit_at m (length xs) == 1) (sym (combined_push xs m u) ∙ e)
  where
    go : (b : Bool) → bit_xor (where_true b u) (combined m xs) ≡ w → IsInSpan (v ∷ xs) w
    go true h =
        let n = cons_mask xs v true (bit_xor m0 m) in
        (n.0, n.1 ∙ ap (bit_xor v) (combined_xor m0 m xs) ∙ sym (xor_assoc v (combined m0 xs) (combined m xs)) ∙ ap (λ x. bit_xor x (combined m xs)) is ∙ h)
    go false h = let n = cons_mask xs v false m in (n.0, n.1 ∙ h)

span_to_push : (xs : List ℕ) (v u m0 : ℕ) → bit_xor v (combined m0 xs) ≡ u → (w : ℕ) → IsInSpan (v ∷ xs) w → IsInSpan (xs ++ u ∷ []) w
span_to_push xs v u m0 is w (m, e) = go (low_bit m) (sym (combined_cons m v xs) ∙ e)
  where
    back : v ≡ bit_xor u (combined m0 xs)
    back = sym (ap (λ x. bit_xor x (combined m0 xs)) (sym is) ∙ xor_assoc v (combined m0 xs) (combined m0 xs) ∙ ap (bit_xor v) (xor_self (combined m0 xs)) ∙ xor_zero_r v)

    go : (b : Bool) → bit_xor (where_true b v) (combined (m / 2) xs) ≡ w → IsInSpan (xs ++ u ∷ []) w
    go true h =
        let n = push_mask xs u true (bit_xor m0 (m / 2)) in
        (n.0, n.1 ∙ ap (bit_xor u) (combined_xor m0 (m / 2) xs) ∙ sym (xor_assoc u (combined m0 xs) (combined (m / 2) xs)) ∙ ap (λ x. bit_xor x (combined (m / 2) xs)) (sym back) ∙ h)
    go false h = let n = push_mask xs u false (m / 2) in (n.0, n.1 ∙ h)

-- the span with the least of a coset is that with any of its members
pub span_more : (xs : List ℕ) (v u : ℕ) → IsLeast (IsInCoset xs v) u → (w : ℕ) → IsInSpan (xs ++ u ∷ []) w ↔ IsInSpan (v ∷ xs) w
span_more xs v u h w = (span_from_push xs v u h.holds.0 h.holds.1 w, span_to_push xs v u h.holds.0 h.holds.1 w)

-- a vector is in the span exactly where the least of its coset is 0
pub in_span_from_zero : (xs : List ℕ) (v u : ℕ) → IsLeast (IsInCoset xs v) u → u ≡ 0 → IsInSpan xs v
in_span_from_zero xs v u h e = (
  h.holds.0,
  sym (sym (xor_zero_r v) ∙ ap (bit_xor v) (sym (xor_self (combined h.holds.0 xs))) ∙ sym (xor_assoc v (combined h.holds.0 xs) (combined h.holds.0 xs))
      ∙ ap (λ x. bit_xor x (combined h.holds.0 xs)) (h.holds.1 ∙ e)),
)

pub zero_from_in_span : (xs : List ℕ) (v u : ℕ) → IsLeast (IsInCoset xs v) u → IsInSpan xs v → u ≡ 0
zero_from_in_span xs v u h (m, e) = let le : u ≤ 0 = h.least 0 (m, ap (bit_xor v) e ∙ xor_self v) in omega (arith, le)

-- the basis with a row more
pub reduced_more : (xs : List ℕ) (v u : ℕ) → IsReduced xs → IsLeast (IsInCoset xs v) u → (u ≡ 0 → ⊥) → u < 2 ^ 32 → IsReduced (xs ++ u ∷ [])
reduced_more xs v u h least some fits i lt = go (cases_lt i (length xs))
  where
    total : length (xs ++ u ∷ []) ≡ length xs + 1
    total = length-append xs (u ∷ [])

    go : (i < length xs) ⊎ (length xs ≤ i) → IsNewRow (take i (xs ++ u ∷ [])) (get_or (xs ++ u ∷ []) i 0)
    go (inl l) =
        subst (λ ys. IsNewRow ys (get_or (xs ++ u ∷ []) i 0)) (sym (take-append-le i xs (u ∷ []) (omega (arith, l))))
        (subst (IsNewRow (take i xs)) (sym (get_or_append_left xs (u ∷ []) 0 i l)) (h i l))
    go (inr le) =
        let e : length xs ≡ i = omega (arith, le, lt, total) in
        let new : IsNewRow xs u = record { nonzero = omega (arith, some); fits = fits; least = kept_from_least xs v u least } in
        subst (λ ys. IsNewRow ys (get_or (xs ++ u ∷ []) i 0)) (sym (take_at xs (u ∷ []) i e)) (subst (IsNewRow xs) (sym (get_or_push xs u 0 i e)) new)

-- ---- there are at most 32 rows: their highest ones differ

combined_single : (xs : List ℕ) (i : ℕ) → i < length xs → combined (2 ^ i) xs ≡ get_or xs i 0
combined_single [] i lt = absurd (omega (arith, lt))
combined_single (x ∷ xs) zero lt = combined_cons 1 x xs ∙ ap (bit_xor x) (combined_none xs) ∙ xor_zero_r x
combined_single (x ∷ xs) (suc i) lt =
    let double : 2 ^ suc i ≡ 2 ^ i * 2 = pow-suc 2 i in
    let even : 2 ^ suc i % 2 ≡ 0 = omega (arith, double) in
    let half : 2 ^ suc i / 2 ≡ 2 ^ i = omega (arith, double) in
    combined_cons (2 ^ suc i) x xs ∙ (λ j. bit_xor (where_true (even j == 1) x) (combined (half j) xs)) ∙ combined_single xs i (omega (arith, lt))

tops_apart : (a b : ℕ) → 0 < a → a < 2 ^ 32 → 0 < b → b < 2 ^ 32 → b ≤ bit_xor b a → count_leading_zeros 32 a ≡ count_leading_zeros 32 b → ⊥
tops_apart a b pa fa pb fb keeps same =
    let ta = leading_top 32 a pa fa in
    let tb = leading_top 32 b pb fb in
    let place : ta.0 ≡ tb.0 = omega (arith, ta.1, tb.1, same) in
    go ta.0 (ta.2, ta.3) (subst (λ j. (2 ^ j ≤ b) × (b < 2 ^ suc j)) (sym place) (tb.2, tb.3))
  where
    go : (j : ℕ) → (2 ^ j ≤ a) × (a < 2 ^ suc j) → (2 ^ j ≤ b) × (b < 2 ^ suc j) → ⊥
    go j ha hb =
        let double : 2 ^ suc j ≡ 2 ^ j * 2 = pow-suc 2 j in
        let ra : a - 2 ^ j < 2 ^ j = omega (arith, ha.0, ha.1, double) in
        let rb : b - 2 ^ j < 2 ^ j = omega (arith, hb.0, hb.1, double) in
        let a_is : 1 * 2 ^ j + (a - 2 ^ j) ≡ a = omega (arith, ha.0) in
        let b_is : 1 * 2 ^ j + (b - 2 ^ j) ≡ b = omega (arith, hb.0) in
        let split : bit_xor b a ≡ bit_xor 1 1 * 2 ^ j + bit_xor (b - 2 ^ j) (a - 2 ^ j) = sym (λ i. bit_xor (b_is i) (a_is i)) ∙ xor_block j 1 1 (b - 2 ^ j) (a - 2 ^ j) rb ra in
        let low : bit_xor (b - 2 ^ j) (a - 2 ^ j) < 2 ^ j = xor_lt j (b - 2 ^ j) (a - 2 ^ j) rb ra in
        let none : bit_xor 1 1 ≡ 0 = xor_self 1 in
        let whole : bit_xor b a ≡ 0 * 2 ^ j + bit_xor (b - 2 ^ j) (a - 2 ^ j) = split ∙ ap (λ n. n * 2 ^ j + bit_xor (b - 2 ^ j) (a - 2 ^ j)) none in
        omega (arith, whole, low, keeps, hb.0)

-- what stands in the list is below a bound of its items
below_all : (n : ℕ) (xs : List ℕ) → ((i : ℕ) → i < length xs → get_or xs i 0 < n) → (q : ℕ) → list_any (eqb q) xs ≡ true → q < n
below_all n [] h q e = cc
below_all n (x ∷ xs) h q e = go (eqb q x) refl e (below_all n xs (λ i lt. h (suc i) (omega (arith, lt))) q)
  where
    go : (b : Bool) → eqb q x ≡ b → (b || list_any (eqb q) xs) ≡ true → (list_any (eqb q) xs ≡ true → q < n) → q < n
    go true s t rest = subst (λ k. k < n) (sym (eqb-true q x s)) (h 0 (omega arith))
    go false s t rest = rest t

-- the places of the highest ones, counted from above
abbrev tops_of : List ℕ → List ℕ
tops_of rows = map (count_leading_zeros 32) rows

pub reduced_length : (rows : List ℕ) → IsReduced rows → length rows ≤ 32
reduced_length rows h = subst (λ n. n ≤ 32) long (length-le_from_distinct_below (tops_of rows) 32 distinct (below_all 32 (tops_of rows) small))
  where
    long : length (tops_of rows) ≡ length rows
    long = length-map rows (count_leading_zeros 32)

    small : (i : ℕ) → i < length (tops_of rows) → get_or (tops_of rows) i 0 < 32
    small i lt =
        let here : i < length rows = subst (λ n. i < n) long lt in
        let top = leading_top 32 (get_or rows i 0) (h i here).nonzero (h i here).fits in
        subst (λ n. n < 32) (sym (get_or-map (count_leading_zeros 32) rows i 0 0 here)) (omega (arith, top.1))

    distinct : IsDistinct eqb (tops_of rows)
    distinct =
        IsDistinct-from_apart eqb (tops_of rows) (λ i j d lt l.
        let there : j < length rows = subst (λ n. j < n) long l in
        let here : i < length rows = omega (arith, lt, there) in
        let front : i < length (take j rows) = (let e : length (take j rows) ≡ j = length-take-le j rows (omega (arith, there)) in omega (arith, e, lt)) in
        let before : combined (2 ^ i) (take j rows) ≡ get_or rows i 0 = combined_single (take j rows) i front ∙ get_or-take j rows i 0 lt in
        let keeps = subst (λ n. get_or rows j 0 ≤ bit_xor (get_or rows j 0) n) before ((h j there).least (2 ^ i)) in
        ne_eqb (get_or (tops_of rows) i d) (get_or (tops_of rows) j d) (λ e.
        tops_apart (get_or rows i 0) (get_or rows j 0) (h i here).nonzero (h i here).fits (h j there).nonzero (h j there).fits keeps
        (sym (get_or-map (count_leading_zeros 32) rows i 0 d here) ∙ e ∙ get_or-map (count_leading_zeros 32) rows j 0 d there)))

-- there is room for a vector outside the span
pub room_left : (xs : List ℕ) (v u : ℕ) → IsReduced xs → IsLeast (IsInCoset xs v) u → (u ≡ 0 → ⊥) → u < 2 ^ 32 → length xs < 32
room_left xs v u h least some fits =
    let short = reduced_length (xs ++ u ∷ []) (reduced_more xs v u h least some fits) in
    omega (arith, short, length-append xs (u ∷ []))
