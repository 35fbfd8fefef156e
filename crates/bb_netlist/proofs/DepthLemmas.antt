-- Depths in a table, and the equation at each gate when one more is set.
use Rattle.std.proofs.Common.{◌≡◌, ◌≢◌, ℕ, ◌+◌, ◌<◌, ◌≤◌, ◌==◌, max, List, [], ◌∷◌, length, cond, Bool, true, false, refl, sym, ap, ◌∙◌, arith, rules, slice_set, Some, None}
use Rattle.std.proofs.lemmas.Grind.{common_steps}
use Rattle.std.proofs.lemmas.Bool.Decides.{nat_tests}
use Rattle.std.proofs.lemmas.List.Sums.{sum_by-cons}
use Rattle.std.specs.Prelude.{Option, if◌then◌else◌}
use Rattle.std.specs.List.{AllByRecursion}
use Rattle.bb_base.specs.Net.{times}
use Rattle.bb_base.specs.Levels.{higher, highest, depth_in, is_open, open_count}

-- the depths with that of one net set
abbrev pub with_depth : (ℕ → Option ℕ) → ℕ → ℕ → ℕ → Option ℕ
with_depth depth out r n = if n == out then Some r else depth n

one_open :
    (depth : ℕ → Option ℕ) (out r n : ℕ) → depth out ≡ None
    → cond (is_open (with_depth depth out r n)) 1 0 + cond (n == out) 1 0 ≡ cond (is_open (depth n)) 1 0
one_open depth out r n h = go (n == out) refl
  where
    go : (b : Bool) → (n == out) ≡ b → cond (is_open (cond b (Some r) (depth n))) 1 0 + cond b 1 0 ≡ cond (is_open (depth n)) 1 0
    go true e = let same : n ≡ out = search (rules, e) in rw (ap depth same ∙ h) refl
    go false e = omega arith

-- a net that gets its depth is open no more
pub open_split : (depth : ℕ → Option ℕ) (out r : ℕ) (ins : List ℕ) → depth out ≡ None → open_count (with_depth depth out r) ins + times out ins ≡ open_count depth ins
open_split depth out r [] h = refl
open_split depth out r (n ∷ ns) h =
    let rest = open_split depth out r ns h in
    let here = one_open depth out r n h in
    let a = sum_by-cons (λ m. cond (is_open (with_depth depth out r m)) 1 0) n ns in
    let b = sum_by-cons (λ m. cond (m == out) 1 0) n ns in
    let c = sum_by-cons (λ m. cond (is_open (depth m)) 1 0) n ns in
    omega (arith, rest, here, a, b, c)

-- nets without an open one have a highest depth, and those with one have none
pub closed_highest : (depth : ℕ → Option ℕ) (ns : List ℕ) → open_count depth ns ≡ 0 → (l : ℕ) × (highest depth ns ≡ Some l)
closed_highest depth [] h = (0, refl)
closed_highest depth (n ∷ ns) h = go (depth n) refl (sum_by-cons (λ m. cond (is_open (depth m)) 1 0) n ns) (closed_highest depth ns)
  where
    go : (a : Option ℕ) → depth n ≡ a → open_count depth (n ∷ ns) ≡ cond (is_open (depth n)) 1 0 + open_count depth ns
        → (open_count depth ns ≡ 0 → (l : ℕ) × (highest depth ns ≡ Some l)) → (l : ℕ) × (higher (depth n) (highest depth ns) ≡ Some l)
    go None e c below = absurd (omega (arith, c, h, ap {B = ℕ} (λ o. cond (is_open o) 1 0) e))
    go (Some a) e c below =
        let rest = below (omega (arith, c, h)) in
        (max a rest.0, ap (λ o. higher o (highest depth ns)) e ∙ ap (higher (Some a)) rest.1)

pub open_highest : (depth : ℕ → Option ℕ) (ns : List ℕ) → open_count depth ns ≢ 0 → highest depth ns ≡ None
open_highest depth [] h = absurd (h refl)
open_highest depth (n ∷ ns) h = go (depth n) refl (sum_by-cons (λ m. cond (is_open (depth m)) 1 0) n ns) (open_highest depth ns)
  where
    go : (a : Option ℕ) → depth n ≡ a → open_count depth (n ∷ ns) ≡ cond (is_open (depth n)) 1 0 + open_count depth ns
        → (open_count depth ns ≢ 0 → highest depth ns ≡ None) → higher (depth n) (highest depth ns) ≡ None
    go None e c below = ap (λ o. higher o (highest depth ns)) e
    go (Some a) e c below =
        let none : open_count depth ns ≢ 0 = λ z. h (omega (arith, c, z, ap {B = ℕ} (λ o. cond (is_open o) 1 0) e)) in
        ap (λ o. higher (depth n) o) (below none) ∙ ap (λ o. higher o None) e

-- the higher of two is one where both are
higher_some : (a b : Option ℕ) (l : ℕ) → higher a b ≡ Some l → (x : ℕ) × (y : ℕ) × (a ≡ Some x) × (b ≡ Some y) × (l ≡ max x y)
higher_some None b l h = cc
higher_some (Some a) None l h = cc
higher_some (Some a) (Some b) l h = (a, b, refl, refl, cc)

keeps_some : (depth : ℕ → Option ℕ) (out r n x : ℕ) → depth out ≡ None → depth n ≡ Some x → with_depth depth out r n ≡ Some x
keeps_some depth out r n x none e = go (n == out) refl
  where
    go : (b : Bool) → (n == out) ≡ b → cond b (Some r) (depth n) ≡ Some x
    go true t = let same : n ≡ out = search (rules, t) in absurd (cc (none, e, ap depth same))
    go false t = e

-- a highest depth stays when a net without one gets its own
pub highest_stays : (depth : ℕ → Option ℕ) (out r l : ℕ) (ns : List ℕ) → depth out ≡ None → highest depth ns ≡ Some l → highest (with_depth depth out r) ns ≡ Some l
highest_stays depth out r l [] h e = e
highest_stays depth out r l (n ∷ ns) h e =
    let parts = higher_some (depth n) (highest depth ns) l e in
    let rest = highest_stays depth out r parts.1 ns h parts.3 in
    let here = keeps_some depth out r n parts.0 h parts.2 in
    ap (λ o. higher o (highest (with_depth depth out r) ns)) here ∙ (ap (higher (Some parts.0)) rest ∙ ap Some (sym parts.4))

-- no net is above the highest
pub highest_low :
    (depth : ℕ → Option ℕ) (nets count bound l : ℕ) (ns : List ℕ) → ((n r : ℕ) → n < nets → depth n ≡ Some r → r + count ≤ bound) → count ≤ bound
    → AllByRecursion (λ n. n < nets) ns → highest depth ns ≡ Some l → l + count ≤ bound
highest_low depth nets count bound l [] low few within e = let none : 0 ≡ l = cc in omega (arith, few, none)
highest_low depth nets count bound l (n ∷ ns) low few within e =
    let parts = higher_some (depth n) (highest depth ns) l e in
    let rest = highest_low depth nets count bound parts.1 ns low few within.1 parts.3 in
    let here = low n parts.0 within.0 parts.2 in
    let is = parts.4 in
    grind (arith, is, rest, here)

-- what has a highest depth has no open net
pub highest_closed : (depth : ℕ → Option ℕ) (ns : List ℕ) (l : ℕ) → highest depth ns ≡ Some l → open_count depth ns ≡ 0
highest_closed depth ns l e = go (open_count depth ns == 0) refl
  where
    go : (b : Bool) → (open_count depth ns == 0) ≡ b → open_count depth ns ≡ 0
    go true t = search (rules, t)
    go false t = let some : open_count depth ns ≢ 0 = search (rules, t) in absurd (cc (open_highest depth ns some, e))

-- the table with one depth set
pub depth_set : (depths : List (Option ℕ)) (out r : ℕ) → out < length depths → depth_in (slice_set depths out (Some r)) ≡ with_depth (depth_in depths) out r
depth_set depths out r within = λ i n. point n i
  where
    point : (n : ℕ) → depth_in (slice_set depths out (Some r)) n ≡ with_depth (depth_in depths) out r n
    point n = go (n == out) refl
      where
        go : (b : Bool) → (n == out) ≡ b → depth_in (slice_set depths out (Some r)) n ≡ cond b (Some r) (depth_in depths n)
        go true t = grind (arith, common_steps, nat_tests)
        go false t = grind (arith, common_steps, nat_tests)

pub depth_there : (depth : ℕ → Option ℕ) (out r : ℕ) → with_depth depth out r out ≡ Some r
depth_there depth out r = go (out == out) refl
  where
    go : (b : Bool) → (out == out) ≡ b → cond b (Some r) (depth out) ≡ Some r
    go true t = refl
    go false t = absurd (search (rules, t))

pub depth_apart : (depth : ℕ → Option ℕ) (out r n : ℕ) → n ≢ out → with_depth depth out r n ≡ depth n
depth_apart depth out r n h = go (n == out) refl
  where
    go : (b : Bool) → (n == out) ≡ b → cond b (Some r) (depth n) ≡ depth n
    go true t = absurd (h (search (rules, t)))
    go false t = refl
