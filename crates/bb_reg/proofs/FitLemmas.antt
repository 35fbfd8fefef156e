-- First fit: the group that an item goes into, and what the groups so far say of it.
use Rattle.std.proofs.Common.{arith, ◌≡◌, ℕ, ◌<◌, ◌≤◌, Bool, true, false, List, [], ◌∷◌, ◌++◌, length, refl, sym, ap, ◌∙◌, subst, Contains, nat_lt, get_or}
use Rattle.std.specs.List.{AllByRecursion}
use Rattle.std.specs.List.Sorted.{IsStrictlySortedBy}
use Rattle.std.specs.Ordering.{nat_cmp, eq_by_cmp}
use Rattle.std.proofs.lemmas.Bool.Decides.{nat_tests}
use Rattle.std.proofs.lemmas.Cmp.{nat_cmp_total, eq_by_cmp_equiv}
use Rattle.std.proofs.lemmas.Grind.{common_steps}
use Rattle.std.proofs.lemmas.List.{get_or_append_left}
use Rattle.std.proofs.Math.Seq.{get_or-append_seam}
use Rattle.std.proofs.lemmas.Map.Views.{list_any-from_Contains, Contains-from_any}
use Rattle.std.proofs.lemmas.Map.Keys.{IsStrictlyIncreasing-from_sorted}
use Rattle.std.proofs.lemmas.List.Kept.{AllPairs-from_increasing}
use Rattle.bb_base.proofs.Contained.{of_all}
use Rattle.bb_reg.specs.Fitting.{holds, IsFirstFree}

-- a key that a set holds is in its list, and the other way round
pub holds_in : (keys : List ℕ) (n : ℕ) → holds keys n ≡ true → Contains keys n
holds_in keys n h = Contains-from_any {eq = eq_by_cmp nat_cmp} (λ x y e. exact x y e) n keys h
  where
    exact : (x y : ℕ) → eq_by_cmp nat_cmp x y ≡ true → x ≡ y
    exact x y e = grind (arith, common_steps, e)

pub in_holds : (keys : List ℕ) (n : ℕ) → Contains keys n → holds keys n ≡ true
in_holds keys n c = list_any-from_Contains {eq = eq_by_cmp nat_cmp} (eq_by_cmp_equiv nat_cmp_total) n keys c

-- the first key behind those that are met
pub at_first : (keys met before rest : List ℕ) (g : ℕ) → IsStrictlySortedBy nat_cmp keys → keys ≡ before ++ g ∷ rest → AllByRecursion (λ h. holds met h ≡ true) before → holds met g ≡ false → IsFirstFree keys met g
at_first keys met before rest g sorted are all free = record {
  stands = in_holds keys g (subst (λ ks. Contains ks g) (sym are) (length before, grind (arith, common_steps), get_or-append_seam before g rest g));
  free = free;
  first = λ h less e. by h less (holds_in keys h e);
}
  where
    by : (h : ℕ) → h < g → Contains keys h → holds met h ≡ true
    by h less c = go (nat_lt c.0 (length before)) refl
      where
        go : (b : Bool) → nat_lt c.0 (length before) ≡ b → holds met h ≡ true
        go true e =
            let low : c.0 < length before = grind (arith, nat_tests, e) in
            let same : get_or before c.0 h ≡ h = sym (get_or_append_left before (g ∷ rest) h c.0 low) ∙ ap (λ ks. get_or ks c.0 h) (sym are) ∙ c.2 in
            of_all (λ n. holds met n ≡ true) before h all (c.0, low, same)
        go false e =
            let high : length before ≤ c.0 = grind (arith, nat_tests, e) in
            let up = AllPairs-from_increasing keys (IsStrictlyIncreasing-from_sorted keys sorted) in
            let seam : get_or keys (length before) h ≡ g = ap (λ ks. get_or ks (length before) h) are ∙ get_or-append_seam before g rest h in
            absurd (further up seam (nat_lt (length before) c.0) refl)
          where
            further : ((i j : ℕ) (d : ℕ) → i < j → j < length keys → get_or keys i d < get_or keys j d) → get_or keys (length before) h ≡ g → (b : Bool) → nat_lt (length before) c.0 ≡ b → ⊥
            further up seam true f = let less' = up (length before) c.0 h (grind (arith, nat_tests, f)) c.1 in omega (arith, less', seam, c.2, less)
            further up seam false f =
                let same : c.0 ≡ length before = grind (arith, nat_tests, e, f) in
                let eq : get_or keys c.0 h ≡ g = ap (λ k. get_or keys k h) same ∙ seam in
                omega (arith, eq, c.2, less)

pub all_met : (keys met before rest : List ℕ) → keys ≡ before ++ rest → rest ≡ [] → AllByRecursion (λ h. holds met h ≡ true) before → (g : ℕ) → holds keys g ≡ true → holds met g ≡ true
all_met keys met before rest are none all g e =
    let whole : keys ≡ before = are ∙ ap (λ ks. before ++ ks) none ∙ search common_steps in
    of_all (λ n. holds met n ≡ true) before g all (subst (λ ks. Contains ks g) whole (holds_in keys g e))
