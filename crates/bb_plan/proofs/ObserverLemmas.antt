-- The observers of a chain with their numbers, in its order.
use Rattle.std.proofs.Common.{arith, ◌≡◌, ℕ, zero, suc, ◌+◌, ◌<◌, List, [], ◌∷◌, ◌++◌, length, take, filter, Bool, true, false, cond, refl, sym, ap, subst, ◌∙◌, slice_get, Some, append-nil}
use Rattle.std.proofs.lemmas.Option.{slice_get_within}
use Rattle.std.proofs.lemmas.Slice.Zip.{all_zipped_more}
use Rattle.bb_plan.proofs.PlaceLemmas.{take_long, take_next}
use Rattle.std.specs.List.{AllZip, enumerate_from}
use Rattle.bb_terms.specs.declared.plan.Cell.{Cell}
use Rattle.bb_terms.specs.Kinds.{is_observer}

-- the observers among some cells, the first of which has the number n
abbrev pub observers_from : ℕ → List Cell → List (ℕ × Cell)
observers_from n cells = filter (λ o. is_observer o.1.kind) (enumerate_from n cells)

-- one more cell
pub observers_push : (n : ℕ) (cells : List Cell) (c : Cell) → observers_from n (cells ++ c ∷ []) ≡ observers_from n cells ++ cond (is_observer c.kind) ((n + length cells, c) ∷ []) []
observers_push n [] c = ap (λ k. cond (is_observer c.kind) ((k, c) ∷ []) []) (let e : n ≡ n + 0 = omega arith in e)
observers_push n (d ∷ cells) c = by (is_observer d.kind) (observers_push (n + 1) cells c)
  where
    by : (b : Bool) → observers_from (n + 1) (cells ++ c ∷ []) ≡ observers_from (n + 1) cells ++ cond (is_observer c.kind) (((n + 1) + length cells, c) ∷ []) []
        → cond b ((n, d) ∷ observers_from (n + 1) (cells ++ c ∷ [])) (observers_from (n + 1) (cells ++ c ∷ [])) ≡ cond b ((n, d) ∷ observers_from (n + 1) cells) (observers_from (n + 1) cells) ++ cond (is_observer c.kind) ((n + suc (length cells), c) ∷ []) []
    by true e = ap (λ os. (n, d) ∷ os) (e ∙ number)
      where
        number : observers_from (n + 1) cells ++ cond (is_observer c.kind) (((n + 1) + length cells, c) ∷ []) [] ≡ observers_from (n + 1) cells ++ cond (is_observer c.kind) ((n + suc (length cells), c) ∷ []) []
        number = ap (λ k. observers_from (n + 1) cells ++ cond (is_observer c.kind) ((k, c) ∷ []) []) (let s : (n + 1) + length cells ≡ n + suc (length cells) = omega arith in s)
    by false e = e ∙ ap (λ k. observers_from (n + 1) cells ++ cond (is_observer c.kind) ((k, c) ∷ []) []) (let s : (n + 1) + length cells ≡ n + suc (length cells) = omega arith in s)

-- an observer stands in the chain at its number
pub record IsObserver (n : ℕ) (cells : List Cell) (i : ℕ) (c : Cell) : Type 0 where
  pub place : ℕ
  pub number : i ≡ n + place
  pub stands : slice_get cells place ≡ Some c
  pub observes : is_observer c.kind ≡ true

later : (n : ℕ) (d : Cell) (cells : List Cell) (i : ℕ) (c : Cell) → IsObserver (n + 1) cells i c → IsObserver n (d ∷ cells) i c
later n d cells i c h = record { place = suc h.place; number = (let e = h.number in omega (arith, e)); stands = h.stands; observes = h.observes }

pub observer_is : (n : ℕ) (cells : List Cell) (k i : ℕ) (c : Cell) → slice_get (observers_from n cells) k ≡ Some (i, c) → IsObserver n cells i c
observer_is n [] k i c at = absurd (cc at)
observer_is n (d ∷ cells) k i c at = by (is_observer d.kind) refl k at (observer_is (n + 1) cells)
  where
    by : (b : Bool) → is_observer d.kind ≡ b → (k : ℕ) → slice_get (cond b ((n, d) ∷ observers_from (n + 1) cells) (observers_from (n + 1) cells)) k ≡ Some (i, c)
        → ((k i : ℕ) (c : Cell) → slice_get (observers_from (n + 1) cells) k ≡ Some (i, c) → IsObserver (n + 1) cells i c) → IsObserver n (d ∷ cells) i c
    by true e zero at rest =
        let both : ◌≡◌ {A = ℕ × Cell} (n, d) (i, c) = cc at in
        let number : n ≡ i = ap (λ (o : ℕ × Cell). o.0) both in
        let same : d ≡ c = ap (λ (o : ℕ × Cell). o.1) both in
        record { place = 0; number = (omega (arith, number)); stands = ap Some same; observes = ap (λ (x : Cell). is_observer x.kind) (sym same) ∙ e }
    by true e (suc k) at rest = later n d cells i c (rest k i c at)
    by false e k at rest = later n d cells i c (rest k i c at)

-- and each is one, behind those before it
pub is_observer_at : (n : ℕ) (cells : List Cell) (place : ℕ) (c : Cell) → slice_get cells place ≡ Some c → is_observer c.kind ≡ true → (k : ℕ) × (slice_get (observers_from n cells) k ≡ Some (n + place, c))
is_observer_at n [] place c at e = absurd (cc at)
is_observer_at n (d ∷ cells) zero c at e =
    let same : d ≡ c = cc at in
    let head : is_observer d.kind ≡ true = ap (λ (x : Cell). is_observer x.kind) same ∙ e in
    (0, ap (λ b. slice_get (cond b ((n, d) ∷ observers_from (n + 1) cells) (observers_from (n + 1) cells)) 0) head ∙ ap (λ (x : Cell). Some (n, x)) same ∙ ap (λ k. Some (k, c)) (let s : n ≡ n + 0 = omega arith in s))
is_observer_at n (d ∷ cells) (suc place) c at e = by (is_observer d.kind) refl (is_observer_at (n + 1) cells place c at e)
  where
    number : (n + 1) + place ≡ n + suc place
    number = omega arith

    by : (b : Bool) → is_observer d.kind ≡ b → (k : ℕ) × (slice_get (observers_from (n + 1) cells) k ≡ Some ((n + 1) + place, c))
        → (k : ℕ) × (slice_get (cond b ((n, d) ∷ observers_from (n + 1) cells) (observers_from (n + 1) cells)) k ≡ Some (n + suc place, c))
    by true f h = (suc h.0, h.1 ∙ ap (λ k. Some (k, c)) number)
    by false f h = (h.0, h.1 ∙ ap (λ k. Some (k, c)) number)

-- an observer with a lower number stands before another one
pub before_observer : (n : ℕ) (cells : List Cell) (k i place : ℕ) (c d : Cell) → slice_get (observers_from n cells) k ≡ Some (i, c) → slice_get cells place ≡ Some d → is_observer d.kind ≡ true → n + place < i
    → (j : ℕ) × (j < k) × (slice_get (observers_from n cells) j ≡ Some (n + place, d))
before_observer n [] k i place c d at there e less = absurd (cc at)
before_observer n (x ∷ cells) k i zero c d at there e less =
    let same : x ≡ d = cc there in
    let head : is_observer x.kind ≡ true = ap (λ (y : Cell). is_observer y.kind) same ∙ e in
    by k (ap (λ b. slice_get (cond b ((n, x) ∷ observers_from (n + 1) cells) (observers_from (n + 1) cells)) k) (sym head) ∙ at)
    (ap (λ b. slice_get (cond b ((n, x) ∷ observers_from (n + 1) cells) (observers_from (n + 1) cells)) 0) head ∙ ap (λ (y : Cell). Some (n, y)) same ∙ ap (λ m. Some (m, d)) (let s : n ≡ n + 0 = omega arith in s))
  where
    by : (k : ℕ) → slice_get ((n, x) ∷ observers_from (n + 1) cells) k ≡ Some (i, c) → slice_get (observers_from n (x ∷ cells)) 0 ≡ Some (n + 0, d) → (j : ℕ) × (j < k) × (slice_get (observers_from n (x ∷ cells)) j ≡ Some (n + 0, d))
    by zero at first =
        let both : ◌≡◌ {A = ℕ × Cell} (n, x) (i, c) = cc at in
        let number : n ≡ i = ap (λ (o : ℕ × Cell). o.0) both in
        absurd (omega (arith, number, less))
    by (suc k) at first = (0, omega arith, first)
before_observer n (x ∷ cells) k i (suc place) c d at there e less = by (is_observer x.kind) refl k at (λ k at. before_observer (n + 1) cells k i place c d at there e (omega (arith, less)))
  where
    number : (n + 1) + place ≡ n + suc place
    number = omega arith

    by : (b : Bool) → is_observer x.kind ≡ b → (k : ℕ) → slice_get (cond b ((n, x) ∷ observers_from (n + 1) cells) (observers_from (n + 1) cells)) k ≡ Some (i, c)
        → ((k : ℕ) → slice_get (observers_from (n + 1) cells) k ≡ Some (i, c) → (j : ℕ) × (j < k) × (slice_get (observers_from (n + 1) cells) j ≡ Some ((n + 1) + place, d)))
        → (j : ℕ) × (j < k) × (slice_get (cond b ((n, x) ∷ observers_from (n + 1) cells) (observers_from (n + 1) cells)) j ≡ Some (n + suc place, d))
    by true f zero at rest = let both : ◌≡◌ {A = ℕ × Cell} (n, x) (i, c) = cc at in let head : n ≡ i = ap (λ (o : ℕ × Cell). o.0) both in absurd (omega (arith, head, less))
    by true f (suc k) at rest = let h = rest k at in (suc h.0, (let low = h.1 in omega (arith, low)), h.2 ∙ ap (λ m. Some (m, d)) number)
    by false f k at rest = let h = rest k at in (h.0, h.1, h.2 ∙ ap (λ m. Some (m, d)) number)

-- facts of two lists, place by place, and at a place
pub zip_left : {X Y : Type 0} (R : X → Y → Type 0) (xs : List X) (ys : List Y) → AllZip R xs ys → (k : ℕ) (x : X) → slice_get xs k ≡ Some x → (y : Y) × (slice_get ys k ≡ Some y) × R x y
zip_left R [] ys h k x at = absurd (cc at)
zip_left R (z ∷ xs) [] h k x at = absurd h
zip_left R (z ∷ xs) (w ∷ ys) h zero x at = let same : z ≡ x = cc at in (w, refl, subst (λ v. R v w) same h.0)
zip_left R (z ∷ xs) (w ∷ ys) h (suc k) x at = zip_left R xs ys h.1 k x at

pub zip_right : {X Y : Type 0} (R : X → Y → Type 0) (xs : List X) (ys : List Y) → AllZip R xs ys → (k : ℕ) (y : Y) → slice_get ys k ≡ Some y → (x : X) × (slice_get xs k ≡ Some x) × R x y
zip_right R [] [] h k y at = absurd (cc at)
zip_right R [] (w ∷ ys) h k y at = absurd h
zip_right R (z ∷ xs) [] h k y at = absurd h
zip_right R (z ∷ xs) (w ∷ ys) h zero y at = let same : w ≡ y = cc at in (z, refl, subst (R z) same h.0)
zip_right R (z ∷ xs) (w ∷ ys) h (suc k) y at = zip_right R xs ys h.1 k y at

-- one more cell with its line, or one that has none
pub lines_more : {Y : Type 0} (R : ℕ × Cell → Y → Type 0) (cells : List Cell) (n : ℕ) (c : Cell) (ys : List Y) (y : Y) → slice_get cells n ≡ Some c → is_observer c.kind ≡ true → AllZip R (observers_from 0 (take n cells)) ys → R (n, c) y
    → AllZip R (observers_from 0 (take (n + 1) cells)) (ys ++ y ∷ [])
lines_more R cells n c ys y at observer so_far here =
    let long = take_long n cells (let less = slice_get_within cells n c at in omega (arith, less)) in
    let number : 0 + length (take n cells) ≡ n = omega (arith, long) in
    let more : observers_from 0 (take (n + 1) cells) ≡ observers_from 0 (take n cells) ++ (n, c) ∷ [] =
    ap (observers_from 0) (take_next cells n c at) ∙ (observers_push 0 (take n cells) c ∙ (ap (λ b. observers_from 0 (take n cells) ++ cond b ((0 + length (take n cells), c) ∷ []) []) observer ∙ ap (λ k. observers_from 0 (take n cells) ++ (k, c) ∷ []) number)) in
    subst (λ os. AllZip R os (ys ++ y ∷ [])) (sym more) (all_zipped_more R (observers_from 0 (take n cells)) ys (n, c) y so_far here)

pub lines_same : {Y : Type 0} (R : ℕ × Cell → Y → Type 0) (cells : List Cell) (n : ℕ) (c : Cell) (ys : List Y) → slice_get cells n ≡ Some c → is_observer c.kind ≡ false → AllZip R (observers_from 0 (take n cells)) ys → AllZip R (observers_from 0 (take (n + 1) cells)) ys
lines_same R cells n c ys at other so_far =
    let same : observers_from 0 (take (n + 1) cells) ≡ observers_from 0 (take n cells) =
    ap (observers_from 0) (take_next cells n c at) ∙ (observers_push 0 (take n cells) c ∙ (ap (λ b. observers_from 0 (take n cells) ++ cond b ((0 + length (take n cells), c) ∷ []) []) other ∙ append-nil (observers_from 0 (take n cells)))) in
    subst (λ os. AllZip R os ys) (sym same) so_far
