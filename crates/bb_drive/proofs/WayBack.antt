-- The way back through Buf gates ends within as many steps as there are gates, so that a copy has the origin of what it copies.
use Rattle.std.proofs.Common.{◌≡◌, ◌≢◌, ℕ, ◌≤◌, zero, suc, nat_eq, ◌||◌, List, [], ◌∷◌, length, map, cond, Bool, true, false, Option, Some, None, refl, sym, ap, ◌∙◌, arith}
use Rattle.std.proofs.lemmas.Bool.Decides.{nat_tests}
use Rattle.std.specs.Prelude.{find}
use Rattle.std.specs.List.{AllByRecursion}
use Rattle.bb_base.proofs.Distinct.{Distinct}
use Rattle.bb_base.specs.Net.{Gate}
use Rattle.bb_fault.specs.Firsts.{on_some}
use Rattle.bb_fault.specs.Work.{Work}
use Rattle.bb_drive.specs.Nets.{has_bit}
use Rattle.bb_drive.specs.Clock.{copied_by, copied_net, origin_within, origin}
use Rattle.bb_drive.proofs.LabelLaws.{origin_more}

-- distinct bits among others are no more than these ------------------------

-- the others but one
abbrev without : ℕ → List ℕ → List ℕ
without x [] = []
without x (y ∷ ys) = cond (nat_eq x y) ys (y ∷ without x ys)

without_short : (x : ℕ) (ys : List ℕ) → has_bit ys x ≡ true → length ys ≡ suc (length (without x ys))
without_short x [] h = cc
without_short x (y ∷ ys) h = by (nat_eq x y) h (without_short x ys)
  where
    by : (t : Bool) → (t || has_bit ys x) ≡ true → (has_bit ys x ≡ true → length ys ≡ suc (length (without x ys))) → suc (length ys) ≡ suc (length (cond t ys (y ∷ without x ys)))
    by true k rec = refl
    by false k rec = ap suc (rec k)

without_has : (x z : ℕ) (ys : List ℕ) → z ≢ x → has_bit ys z ≡ true → has_bit (without x ys) z ≡ true
without_has x z [] apart h = h
without_has x z (y ∷ ys) apart h = by (nat_eq x y) refl (nat_eq z y) refl h (without_has x z ys apart)
  where
    by : (s : Bool) → nat_eq x y ≡ s → (t : Bool) → nat_eq z y ≡ t → (t || has_bit ys z) ≡ true → (has_bit ys z ≡ true → has_bit (without x ys) z ≡ true) → has_bit (cond s ys (y ∷ without x ys)) z ≡ true
    by true e true f k rec = absurd (apart (grind (arith, nat_tests)))
    by true e false f k rec = k
    by false e true f k rec = ap (λ t. t || has_bit (without x ys) z) f
    by false e false f k rec = ap (λ t. t || has_bit (without x ys) z) f ∙ rec k

few_among : (xs ys : List ℕ) → Distinct xs → AllByRecursion (λ x. has_bit ys x ≡ true) xs → length xs ≤ length ys
few_among [] ys d all = omega arith
few_among (x ∷ xs) ys d all = omega (arith, without_short x ys all.0, few_among xs (without x ys) d.1 (others xs d.0 all.1))
  where
    others : (zs : List ℕ) → AllByRecursion (λ z. z ≢ x) zs → AllByRecursion (λ z. has_bit ys z ≡ true) zs → AllByRecursion (λ z. has_bit (without x ys) z ≡ true) zs
    others [] a b = tt
    others (z ∷ zs) a b = (without_has x z ys a.0 b.0, others zs a.1 b.1)

-- ways back -----------------------------------------------------------------

-- where a way begins that ends at this bit
abbrev start_of : List ℕ → ℕ → ℕ
start_of [] end = end
start_of (x ∷ way) end = x

-- each bit of the way copies the next one, and the last the end
abbrev IsWay : List (Gate ℕ) → List ℕ → ℕ → Type 0
IsWay gates [] end = Unit {0}
IsWay gates (x ∷ way) end = (copied_net gates x ≡ Some (start_of way end)) × IsWay gates way end

-- a way from a bit to another one
record HasWay (gates : List (Gate ℕ)) (b end : ℕ) : Type 0 where
  way : List ℕ
  starts : start_of way end ≡ b
  is : IsWay gates way end

-- one that meets no bit twice
record HasShortWay (gates : List (Gate ℕ)) (b end : ℕ) : Type 0 where
  way : List ℕ
  starts : start_of way end ≡ b
  is : IsWay gates way end
  once : Distinct way

origin_has : (steps : ℕ) (gates : List (Gate ℕ)) (b : ℕ) → HasWay gates b (origin_within steps gates b)
origin_has zero gates b = record { way = []; starts = refl; is = tt }
origin_has (suc steps) gates b = by (copied_net gates b) refl (origin_has steps gates)
  where
    by : (o : Option ℕ) → copied_net gates b ≡ o → ((a : ℕ) → HasWay gates a (origin_within steps gates a)) → HasWay gates b (on_some o b (origin_within steps gates))
    by None e rec = record { way = []; starts = refl; is = tt }
    by (Some a) e rec = record { way = b ∷ (rec a).way; starts = refl; is = (e ∙ ap Some (sym (rec a).starts), (rec a).is) }

-- the way from a bit on it
from_here : (gates : List (Gate ℕ)) (x end : ℕ) (way : List ℕ) → has_bit way x ≡ true → IsWay gates way end → Distinct way → HasShortWay gates x end
from_here gates x end [] h is once = absurd (cc h)
from_here gates x end (y ∷ way) h is once = by (nat_eq x y) refl h (λ k. from_here gates x end way k is.1 once.1)
  where
    by : (t : Bool) → nat_eq x y ≡ t → (t || has_bit way x) ≡ true → (has_bit way x ≡ true → HasShortWay gates x end) → HasShortWay gates x end
    by true e k rec = record { way = y ∷ way; starts = grind (arith, nat_tests); is = is; once = once }
    by false e k rec = rec k

not_among : (x : ℕ) (way : List ℕ) → has_bit way x ≡ false → AllByRecursion (λ y. y ≢ x) way
not_among x [] h = tt
not_among x (y ∷ way) h = by (nat_eq x y) refl h (not_among x way)
  where
    by : (t : Bool) → nat_eq x y ≡ t → (t || has_bit way x) ≡ false → (has_bit way x ≡ false → AllByRecursion (λ z. z ≢ x) way) → (y ≢ x) × AllByRecursion (λ z. z ≢ x) way
    by true e k rec = absurd (cc k)
    by false e k rec = ((λ same. absurd (grind (arith, nat_tests))), rec k)

shortened : (gates : List (Gate ℕ)) (end : ℕ) (way : List ℕ) → IsWay gates way end → HasShortWay gates (start_of way end) end
shortened gates end [] is = record { way = []; starts = refl; is = tt; once = tt }
shortened gates end (x ∷ way) is = go (shortened gates end way is.1)
  where
    go : HasShortWay gates (start_of way end) end → HasShortWay gates x end
    go short = by (has_bit short.way x) refl
      where
        by : (t : Bool) → has_bit short.way x ≡ t → HasShortWay gates x end
        by true e = from_here gates x end short.way e short.is short.once
        by false e = record { way = x ∷ short.way; starts = refl; is = (is.0 ∙ ap Some (sym short.starts), short.is); once = (not_among x short.way e, short.once) }

-- what copies another bit is driven by a gate
copy_driven : (gates : List (Gate ℕ)) (x a : ℕ) → copied_net gates x ≡ Some a → has_bit (map (λ (g : Gate ℕ). g.out) gates) x ≡ true
copy_driven [] x a h = absurd (cc h)
copy_driven (g ∷ gates) x a h = by (nat_eq x g.out) h (copy_driven gates x a)
  where
    by : (t : Bool) → copied_by (cond t (Some g) (find (λ f. nat_eq x f.out) gates)) ≡ Some a → (copied_net gates x ≡ Some a → has_bit (map (λ (f : Gate ℕ). f.out) gates) x ≡ true) → (t || has_bit (map (λ (f : Gate ℕ). f.out) gates) x) ≡ true
    by true k rec = refl
    by false k rec = rec k

way_driven : (gates : List (Gate ℕ)) (end : ℕ) (way : List ℕ) → IsWay gates way end → AllByRecursion (λ x. has_bit (map (λ (g : Gate ℕ). g.out) gates) x ≡ true) way
way_driven gates end [] is = tt
way_driven gates end (x ∷ way) is = (copy_driven gates x (start_of way end) is.0, way_driven gates end way is.1)

way_ends : (gates : List (Gate ℕ)) (end : ℕ) (way : List ℕ) → IsWay gates way end → origin_within (length way) gates (start_of way end) ≡ end
way_ends gates end [] is = refl
way_ends gates end (x ∷ way) is = ap (λ o. on_some o x (origin_within (length way) gates)) is.0 ∙ way_ends gates end way is.1

outs_long : (gates : List (Gate ℕ)) → length (map (λ (g : Gate ℕ). g.out) gates) ≡ length gates
outs_long [] = refl
outs_long (g ∷ gates) = ap suc (outs_long gates)

-- a copy has the origin of what it copies, where that copies nothing
pub copied_origin : (w : Work) (b a : ℕ) → copied_net w.gates b ≡ Some a → copied_net w.gates (origin w a) ≡ None → origin w b ≡ origin w a
copied_origin w b a copies still = go (origin_has (length w.gates) w.gates a)
  where
    ends : HasShortWay w.gates b (origin w a) → origin w b ≡ origin w a
    ends short =
        let few = few_among short.way (map (λ (g : Gate ℕ). g.out) w.gates) short.once (way_driven w.gates (origin w a) short.way short.is) in
        origin_more (length short.way) (length w.gates) w.gates b (origin w a) (omega (arith, few, outs_long w.gates)) still
        (ap (origin_within (length short.way) w.gates) (sym short.starts) ∙ way_ends w.gates (origin w a) short.way short.is)

    go : HasWay w.gates a (origin w a) → origin w b ≡ origin w a
    go from = ends (shortened w.gates (origin w a) (b ∷ from.way) (copies ∙ ap Some (sym from.starts), from.is))
