-- the walk from 0: away from 0 for all steps exactly where it meets every state
use Rattle.std.proofs.Common.{◌≡◌, ℕ, ◌+◌, ◌-◌, ◌*◌, ◌^◌, ◌<◌, ◌≤◌, zero, suc, List, [], ◌∷◌, length, get_or, Bool, true, false, ◌||◌, eqb, refl, sym, ap, ◌∙◌, subst, arith, ◌⊎◌, inl, inr}
use Rattle.std.specs.List.{list_any, IsDistinct, AllByRecursion}
use Rattle.std.proofs.lemmas.Bool.{cases_lt, cases_order, eq-eqb, ne_eqb, eqb-true, or_right}
use Rattle.std.proofs.lemmas.Map.Keys.{IsDistinct-cons}
use Rattle.std.proofs.lemmas.Map.Steps.{length-le_from_distinct_below, le-length_from_below}
use Rattle.std.proofs.lemmas.Nat.{pow_pos}
use Rattle.std.proofs.Math.Nat.{pow-suc}
use Rattle.bb_base.specs.Bits.{from_bits}
use Rattle.bb_base.specs.Parity.{code_word}
use Rattle.bb_base.specs.Span.{combined}
use Rattle.bb_base.specs.Dual.{AreDuals}
use Rattle.bb_gf2.proofs.Existence.{state_codes, combined_below}
use Rattle.bb_terms.specs.Register.{IsMask, IsFullPeriod, next_state, state_after}
use Rattle.bb_terms.specs.Walk.{IsAway, IsFirstReturn}
use Rattle.bb_gf2.proofs.Injective.{next_below, next_injective, next_of_last}

pub state_below : (k m t : ℕ) → state_after k m t < 2 ^ k
state_below k m zero = pow_pos k
state_below k m (suc t) = next_below k m (state_after k m t)

-- two times with one state: the walk is at 0 as long after the start as they are apart
back_at : (j m : ℕ) → IsMask (suc j) m → (s d : ℕ) → state_after (suc j) m s ≡ state_after (suc j) m (s + d) → state_after (suc j) m d ≡ 0
back_at j m h zero d e = let same : 0 + d ≡ d = omega arith in sym (e ∙ ap (state_after (suc j) m) same)
back_at j m h (suc s) d e =
    let later : suc s + d ≡ suc (s + d) = omega arith in
    back_at j m h s d
    (next_injective j m (state_after (suc j) m s) (state_after (suc j) m (s + d)) h (state_below (suc j) m s) (state_below (suc j) m (s + d)) (e ∙ ap (state_after (suc j) m) later))

-- the states before time n, the last one first
states : ℕ → ℕ → ℕ → List ℕ
states k m zero = []
states k m (suc n) = state_after k m n ∷ states k m n

length_states : (k m n : ℕ) → length (states k m n) ≡ n
unfolding states
length_states k m zero = refl
length_states k m (suc n) = ap suc (length_states k m n)

-- a state that stands among them has a time
time_of : (k m n x : ℕ) → list_any (eqb x) (states k m n) ≡ true → (t : ℕ) × (t < n) × (state_after k m t ≡ x)
unfolding states
time_of k m zero x e = absurd cc
time_of k m (suc n) x e = go (eqb x (state_after k m n)) refl e (λ g. time_of k m n x g)
  where
    go : (b : Bool) → eqb x (state_after k m n) ≡ b → (b || list_any (eqb x) (states k m n)) ≡ true
        → (list_any (eqb x) (states k m n) ≡ true → (t : ℕ) × (t < n) × (state_after k m t ≡ x)) → (t : ℕ) × (t < suc n) × (state_after k m t ≡ x)
    go true s g more = (n, omega arith, sym (eqb-true x (state_after k m n) s))
    go false s g more = let t = more g in (t.0, (let lt = t.1 in omega (arith, lt)), t.2)

-- and the other way round
among : (k m n t : ℕ) → t < n → list_any (eqb (state_after k m t)) (states k m n) ≡ true
unfolding states
among k m zero t lt = absurd (omega (arith, lt))
among k m (suc n) t lt = go (cases_lt t n) (λ l. among k m n t l)
  where
    go : (t < n) ⊎ (n ≤ t) → (t < n → list_any (eqb (state_after k m t)) (states k m n) ≡ true) → (eqb (state_after k m t) (state_after k m n) || list_any (eqb (state_after k m t)) (states k m n)) ≡ true
    go (inl l) more = or_right (eqb (state_after k m t) (state_after k m n)) (list_any (eqb (state_after k m t)) (states k m n)) (more l)
    go (inr le) more =
        let same : t ≡ n = omega (arith, le, lt) in
        ap (λ b. b || list_any (eqb (state_after k m t)) (states k m n)) (eq-eqb (state_after k m t) (state_after k m n) (ap (state_after k m) same))

-- while the walk is away from 0, its states differ
apart : (j m size : ℕ) → IsMask (suc j) m → IsAway (suc j) m size → (n i : ℕ) → n < size → i ≤ n → AllByRecursion (λ y. eqb (state_after (suc j) m n) y ≡ false) (states (suc j) m i)
unfolding states
apart j m size h away n zero lt le = tt
apart j m size h away n (suc i) lt le = (
  ne_eqb (state_after (suc j) m n) (state_after (suc j) m i) (λ e.
      let later : i + (n - i) ≡ n = omega (arith, le) in
      away (n - i) (omega (arith, le)) (omega (arith, lt)) (back_at j m h i (n - i) (sym e ∙ ap (state_after (suc j) m) (sym later)))),
  apart j m size h away n i lt (omega (arith, le)),
)

distinct : (j m size : ℕ) → IsMask (suc j) m → IsAway (suc j) m size → (n : ℕ) → n ≤ size → IsDistinct eqb (states (suc j) m n)
unfolding states IsDistinct
distinct j m size h away zero le = tt
distinct j m size h away (suc n) le = (apart j m size h away n n (omega (arith, le)) (omega arith), distinct j m size h away n (omega (arith, le)))

none_of : (q : ℕ) (xs : List ℕ) → list_any (eqb q) xs ≡ false → AllByRecursion (λ y. eqb q y ≡ false) xs
none_of q [] e = tt
none_of q (x ∷ xs) e = go (eqb q x) refl e (λ k. none_of q xs k)
  where
    go : (b : Bool) → eqb q x ≡ b → (b || list_any (eqb q) xs) ≡ false → (list_any (eqb q) xs ≡ false → AllByRecursion (λ y. eqb q y ≡ false) xs) → (eqb q x ≡ false) × AllByRecursion (λ y. eqb q y ≡ false) xs
    go true s t rest = cc
    go false s t rest = (s, rest t)

-- as many different states as there are are all of them
pub full_from_away : (j m : ℕ) → IsMask (suc j) m → IsAway (suc j) m (2 ^ suc j) → IsFullPeriod (suc j) m
full_from_away j m h away x lt = go (list_any (eqb x) (states (suc j) m (2 ^ suc j))) refl
  where
    go : (b : Bool) → list_any (eqb x) (states (suc j) m (2 ^ suc j)) ≡ b → (t : ℕ) × (t < 2 ^ suc j) × (state_after (suc j) m t ≡ x)
    go true e = time_of (suc j) m (2 ^ suc j) x e
    go false e =
        let all = states (suc j) m (2 ^ suc j) in
        let small : (q : ℕ) → list_any (eqb q) (x ∷ all) ≡ true → q < 2 ^ suc j = λ q g. below q (eqb q x) refl g in
        let more : suc (length all) ≤ 2 ^ suc j =
        length-le_from_distinct_below (x ∷ all) (2 ^ suc j) (IsDistinct-cons eqb x all (none_of x all e) (distinct j m (2 ^ suc j) h away (2 ^ suc j) (omega arith))) small in
        absurd (omega (arith, more, length_states (suc j) m (2 ^ suc j)))
      where
        below : (q : ℕ) (b : Bool) → eqb q x ≡ b → (b || list_any (eqb q) (states (suc j) m (2 ^ suc j))) ≡ true → q < 2 ^ suc j
        below q true s g = let same : q ≡ x = eqb-true q x s in omega (arith, same, lt)
        below q false s g = let t = time_of (suc j) m (2 ^ suc j) q g in subst (λ n. n < 2 ^ suc j) t.2 (state_below (suc j) m t.0)

-- once it is back at 0, the walk goes round
pub round : (k m back : ℕ) → state_after k m back ≡ 0 → (t : ℕ) → state_after k m (back + t) ≡ state_after k m t
round k m back h zero = let e : back + 0 ≡ back = omega arith in ap (state_after k m) e ∙ h
round k m back h (suc t) = let e : back + suc t ≡ suc (back + t) = omega arith in ap (state_after k m) e ∙ ap (next_state k m) (round k m back h t)

early : (k m back : ℕ) → 0 < back → state_after k m back ≡ 0 → (fuel t : ℕ) → t < fuel → (i : ℕ) × (i < back) × (state_after k m t ≡ state_after k m i)
early k m back some h zero t lt = absurd (omega (arith, lt))
early k m back some h (suc fuel) t lt = go (cases_lt t back) (λ e. early k m back some h fuel (t - back) e)
  where
    go : (t < back) ⊎ (back ≤ t) → (t - back < fuel → (i : ℕ) × (i < back) × (state_after k m (t - back) ≡ state_after k m i)) → (i : ℕ) × (i < back) × (state_after k m t ≡ state_after k m i)
    go (inl e) more = (t, e, refl)
    go (inr e) more =
        let i = more (omega (arith, e, lt, some)) in
        let again : back + (t - back) ≡ t = omega (arith, e) in
        (i.0, i.1, sym (ap (state_after k m) again) ∙ round k m back h (t - back) ∙ i.2)

-- a full walk isn't back early
pub late_from_full : (k m back : ℕ) → IsFullPeriod k m → 0 < back → state_after k m back ≡ 0 → 2 ^ k ≤ back
late_from_full k m back full some h =
    let all : (q : ℕ) → q < 2 ^ k → list_any (eqb q) (states k m back) ≡ true =
    λ q lt.
    let t = full q lt in
    let i = early k m back some h (suc t.0) t.0 (omega arith) in
    subst (λ x. list_any (eqb x) (states k m back) ≡ true) (sym i.2 ∙ t.2) (among k m back i.0 i.1) in
    subst (λ n. 2 ^ k ≤ n) (length_states k m back) (le-length_from_below (states k m back) (2 ^ k) all)

pub away_from_full : (k m : ℕ) → IsFullPeriod k m → IsAway k m (2 ^ k)
away_from_full k m full t some lt back = let late = late_from_full k m t full some back in omega (arith, late, lt)

pub first_return_from_full : (j m : ℕ) → IsMask (suc j) m → IsFullPeriod (suc j) m → IsFirstReturn (suc j) m (2 ^ suc j)
first_return_from_full j m h full =
    let double : 2 ^ suc j ≡ 2 ^ j * 2 = pow-suc 2 j in
    let some = pow_pos j in
    let t = full (2 ^ j) (omega (arith, double, some)) in
    let back : state_after (suc j) m (suc t.0) ≡ 0 = ap (next_state (suc j) m) t.2 ∙ next_of_last j m h in
    let late = late_from_full (suc j) m (suc t.0) full (omega arith) back in
    let end : suc t.0 ≡ 2 ^ suc j = (let lt = t.1 in omega (arith, lt, late)) in
    record { some = pow_pos (suc j); back = sym (ap (state_after (suc j) m) end) ∙ back; away = away_from_full (suc j) m full }

-- the first return is one
pub first_unique : (k m a b : ℕ) → IsFirstReturn k m a → IsFirstReturn k m b → a ≡ b
first_unique k m a b h g = go (cases_order a b)
  where
    go : (a ≡ b) ⊎ ((a < b) ⊎ (b < a)) → a ≡ b
    go (inl e) = e
    go (inr (inl lt)) = absurd (g.away a h.some lt h.back)
    go (inr (inr lt)) = absurd (h.away b g.some lt g.back)

-- ---- the same for a degree from 1 on

pub full_from_walk : (k m : ℕ) → 1 ≤ k → IsMask k m → IsAway k m (2 ^ k) → IsFullPeriod k m
full_from_walk zero m some h away = absurd (omega (arith, some))
full_from_walk (suc j) m some h away = full_from_away j m h away

pub first_return : (k m : ℕ) → 1 ≤ k → IsMask k m → IsFullPeriod k m → IsFirstReturn k m (2 ^ k)
first_return zero m some h full = absurd (omega (arith, some))
first_return (suc j) m some h full = first_return_from_full j m h full

pub one_to_one : (k m x y : ℕ) → 1 ≤ k → IsMask k m → x < 2 ^ k → y < 2 ^ k → next_state k m x ≡ next_state k m y → x ≡ y
one_to_one zero m x y some h lx ly e = absurd (omega (arith, some))
one_to_one (suc j) m x y some h lx ly e = next_injective j m x y h lx ly e

-- a full walk meets the state that chosen duals make
pub vector_comes : (k m : ℕ) (columns duals : List ℕ) (wanted : List Bool) → IsFullPeriod k m → AreDuals columns duals → ((place : ℕ) → place < length duals → get_or duals place 0 < 2 ^ k)
    → length wanted ≡ length columns → (t : ℕ) × (t < 2 ^ k) × (code_word columns (state_after k m t) ≡ wanted)
vector_comes k m columns duals wanted full dual small long =
    let t = full (combined (from_bits wanted) duals) (combined_below k (from_bits wanted) duals small) in
    (t.0, t.1, ap (code_word columns) t.2 ∙ state_codes columns duals wanted dual long)
