-- What meets the equation of depths has the levels.
use Rattle.std.proofs.Common.{arith, ◌≡◌, ℕ, suc, zero, ◌<◌, max, Bool, true, false, ◌&&◌, nat_le, ◌==◌, List, [], ◌∷◌, refl, sym, ap, ◌∙◌, rules, cond, All}
use Rattle.std.proofs.lemmas.Bool.Decides.{nat_tests}
use Rattle.std.proofs.lemmas.List.Elements.{recursion_from_All}
use Rattle.std.specs.Prelude.{Option, Some, None, nat_lt, if◌then◌else◌}
use Rattle.std.specs.List.{list_all, AllByRecursion}
use Rattle.bb_base.specs.Net.{Gate}
use Rattle.bb_base.specs.Order.{drivers, is_within, is_empty, HasLevel, IsStuck}
use Rattle.bb_base.proofs.BooleanLemmas.{and_same, and_true}
use Rattle.bb_base.specs.Levels.{higher, highest, next_depth, MeetsDepth, AreDepths, AreGates}

-- the depth is one, and at most k
abbrev pub below : ℕ → Option ℕ → Bool
below k None = false
below k (Some l) = nat_le l k

max_below : (a b k : ℕ) → (nat_le a k && nat_le b k) ≡ nat_le (max a b) k
max_below a b k = grind (arith, nat_tests)

both_below : (k : ℕ) (a b : Option ℕ) → (below k a && below k b) ≡ below k (higher a b)
both_below k None b = refl
both_below k (Some a) None = grind (arith, nat_tests)
both_below k (Some a) (Some b) = max_below a b k

zero_below : (k : ℕ) → nat_le 0 k ≡ true
zero_below k = grind (arith, nat_tests)

all_below : (k : ℕ) (depth : ℕ → Option ℕ) (ns : List ℕ) → list_all (λ m. below k (depth m)) ns ≡ below k (highest depth ns)
all_below k depth [] = sym (zero_below k)
all_below k depth (n ∷ ns) = ap (λ b. below k (depth n) && b) (all_below k depth ns) ∙ both_below k (depth n) (highest depth ns)

next_below : (k : ℕ) (a : Option ℕ) → below k a ≡ below (suc k) (next_depth a)
next_below k None = refl
next_below k (Some a) = grind (arith, nat_tests)

never_zero : (a : Option ℕ) → below 0 (next_depth a) ≡ false
never_zero None = refl
never_zero (Some a) = grind (arith, nat_tests)

-- what drives the net gives its depth
abbrev Gives : (depth : ℕ → Option ℕ) (n : ℕ) → List (Gate ℕ) → Type 0
Gives depth n ds = AllByRecursion (λ g. depth n ≡ next_depth (highest depth g.ins)) ds

drivers_give : (depth : ℕ → Option ℕ) (n : ℕ) (gates : List (Gate ℕ)) → AllByRecursion (MeetsDepth depth) gates → Gives depth n (drivers gates n)
drivers_give depth n [] h = tt
drivers_give depth n (g ∷ gates) h = go (g.out == n) refl (drivers_give depth n gates h.1)
  where
    go : (b : Bool) → (g.out == n) ≡ b → Gives depth n (drivers gates n) → Gives depth n (cond b (g ∷ drivers gates n) (drivers gates n))
    go true e rest = (ap depth (search (rules, e)) ∙ h.0, rest)
    go false e rest = rest

zero_case : (depth : ℕ → Option ℕ) (n : ℕ) (ds : List (Gate ℕ)) → (ds ≡ [] → depth n ≡ Some 0) → Gives depth n ds → is_empty ds ≡ below 0 (depth n)
zero_case depth n [] free h = sym (ap (below 0) (free refl))
zero_case depth n (d ∷ ds) free h = sym (ap (below 0) h.0 ∙ never_zero (highest depth d.ins))

same_all : (b : Bool) (f : Gate ℕ → Bool) (ds : List (Gate ℕ)) → AllByRecursion (λ g. f g ≡ b) ds → (b && list_all f ds) ≡ b
same_all b f [] h = and_true b
same_all b f (d ∷ ds) h = ap (λ x. b && (x && list_all f ds)) h.0 ∙ (ap (λ x. b && x) (same_all b f ds h.1) ∙ and_same b)

each_below : (k : ℕ) (depth : ℕ → Option ℕ) (n : ℕ) (ds : List (Gate ℕ)) → Gives depth n ds → AllByRecursion (λ g. below k (highest depth g.ins) ≡ below (suc k) (depth n)) ds
each_below k depth n [] h = tt
each_below k depth n (d ∷ ds) h = (next_below k (highest depth d.ins) ∙ sym (ap (below (suc k)) h.0), each_below k depth n ds h.1)

suc_case :
    (k : ℕ) (depth : ℕ → Option ℕ) (n : ℕ) (ds : List (Gate ℕ)) → (ds ≡ [] → depth n ≡ Some 0) → Gives depth n ds
    → list_all (λ g. below k (highest depth g.ins)) ds ≡ below (suc k) (depth n)
suc_case k depth n [] free h = sym (ap (below (suc k)) (free refl) ∙ zero_below (suc k))
suc_case k depth n (d ∷ ds) free h =
    let each = each_below k depth n (d ∷ ds) h in
    ap (λ x. x && list_all (λ g. below k (highest depth g.ins)) ds) each.0 ∙ same_all (below (suc k) (depth n)) (λ g. below k (highest depth g.ins)) ds each.1

ins_below :
    (gates : List (Gate ℕ)) (depth : ℕ → Option ℕ) (k : ℕ) → ((m : ℕ) → is_within gates k m ≡ below k (depth m)) → (ns : List ℕ)
    → list_all (is_within gates k) ns ≡ below k (highest depth ns)
ins_below gates depth k ih ns = (λ i. list_all (λ m. ih m i) ns) ∙ all_below k depth ns

-- what holds of all numbers, where there is a depth also for what is no net
pub record DepthsOfAll (gates : List (Gate ℕ)) (depth : ℕ → Option ℕ) : Type 0 where
  pub free : (n : ℕ) → drivers gates n ≡ [] → depth n ≡ Some 0
  pub driven : AllByRecursion (MeetsDepth depth) gates

-- every way back passes at most k gates exactly where the depth is at most k
within_by_depth : (gates : List (Gate ℕ)) (depth : ℕ → Option ℕ) → DepthsOfAll gates depth → (k n : ℕ) → is_within gates k n ≡ below k (depth n)
within_by_depth gates depth r zero n = zero_case depth n (drivers gates n) (r.free n) (drivers_give depth n gates r.driven)
within_by_depth gates depth r (suc k) n =
    let ih = within_by_depth gates depth r k in
    (λ i. list_all (λ g. ins_below gates depth k ih g.ins i) (drivers gates n))
    ∙ suc_case k depth n (drivers gates n) (r.free n) (drivers_give depth n gates r.driven)

-- the depths of nets, and 0 for what is none
abbrev pub everywhere : ℕ → (ℕ → Option ℕ) → ℕ → Option ℕ
everywhere nets depth n = if nat_lt n nets then depth n else Some 0

pub at_net : (nets : ℕ) (depth : ℕ → Option ℕ) (n : ℕ) → n < nets → everywhere nets depth n ≡ depth n
at_net nets depth n within = go (nat_lt n nets) refl
  where
    go : (b : Bool) → nat_lt n nets ≡ b → cond b (depth n) (Some 0) ≡ depth n
    go true e = refl
    go false e = absurd (grind (arith, nat_tests, within, e))

at_nets : (nets : ℕ) (depth : ℕ → Option ℕ) (ns : List ℕ) → AllByRecursion (λ n. n < nets) ns → highest (everywhere nets depth) ns ≡ highest depth ns
at_nets nets depth [] h = refl
at_nets nets depth (n ∷ ns) h = ap (λ o. higher o (highest (everywhere nets depth) ns)) (at_net nets depth n h.0) ∙ ap (higher (depth n)) (at_nets nets depth ns h.1)

-- nets of gates are nets
abbrev Fits : ℕ → Gate ℕ → Type 0
Fits nets g = (g.out < nets) × AllByRecursion (λ n. n < nets) g.ins

meets_everywhere : (nets : ℕ) (depth : ℕ → Option ℕ) (gates : List (Gate ℕ)) → AllByRecursion (Fits nets) gates → AllByRecursion (MeetsDepth depth) gates → AllByRecursion (MeetsDepth (everywhere nets depth)) gates
meets_everywhere nets depth [] fits h = tt
meets_everywhere nets depth (g ∷ gates) fits h =
    (at_net nets depth g.out fits.0.0 ∙ (h.0 ∙ sym (ap next_depth (at_nets nets depth g.ins fits.0.1))), meets_everywhere nets depth gates fits.1 h.1)

fit_all : (nets : ℕ) (gates : List (Gate ℕ)) → AllByRecursion (λ g. g.out < nets) gates → AllByRecursion (λ g. All (λ n. n < nets) g.ins) gates → AllByRecursion (Fits nets) gates
fit_all nets [] a b = tt
fit_all nets (g ∷ gates) a b = ((a.0, recursion_from_All (λ n. n < nets) g.ins b.0), fit_all nets gates a.1 b.1)

by_depth_everywhere : (nets : ℕ) (gates : List (Gate ℕ)) (depth : ℕ → Option ℕ) → AreGates nets gates → AreDepths nets gates depth → DepthsOfAll gates (everywhere nets depth)
by_depth_everywhere nets gates depth fit r = record {
  free = λ n none. go n none (nat_lt n nets) refl;
  driven = meets_everywhere nets depth gates (fit_all nets gates (recursion_from_All (λ g. g.out < nets) gates fit.drives) (recursion_from_All (λ g. All (λ n. n < nets) g.ins) gates fit.reads)) r.driven;
}
  where
    go : (n : ℕ) → drivers gates n ≡ [] → (b : Bool) → nat_lt n nets ≡ b → cond b (depth n) (Some 0) ≡ Some 0
    go n none true e = r.free n (grind (arith, nat_tests, e)) none
    go n none false e = refl

-- a net is stuck exactly where it has no depth
pub stuck_open : (nets : ℕ) (gates : List (Gate ℕ)) (depth : ℕ → Option ℕ) (n : ℕ) → AreGates nets gates → AreDepths nets gates depth → n < nets → depth n ≡ None → IsStuck gates n
stuck_open nets gates depth n fit r within none k =
    within_by_depth gates (everywhere nets depth) (by_depth_everywhere nets gates depth fit r) k n ∙ ap (below k) (at_net nets depth n within ∙ none)

pub by_depth_settles : (nets : ℕ) (gates : List (Gate ℕ)) (depth : ℕ → Option ℕ) (n l : ℕ) → AreGates nets gates → AreDepths nets gates depth → everywhere nets depth n ≡ Some l → IsStuck gates n → ⊥
by_depth_settles nets gates depth n l fit r some stuck =
    let yes_within = within_by_depth gates (everywhere nets depth) (by_depth_everywhere nets gates depth fit r) l n ∙ ap (below l) some in
    let reaches : nat_le l l ≡ true = grind (arith, nat_tests) in
    cc (yes_within, reaches, stuck l)

-- a gate whose inputs have a highest depth has it as its level
pub level_highest :
    (nets : ℕ) (gates : List (Gate ℕ)) (depth : ℕ → Option ℕ) (g : Gate ℕ) (l : ℕ) → AreGates nets gates → AreDepths nets gates depth → AllByRecursion (λ n. n < nets) g.ins
    → highest depth g.ins ≡ Some l → HasLevel gates g l
level_highest nets gates depth g l fit r inside is = record {
  within = all l ∙ reaches;
  least = λ k less. all k ∙ falls k less;
}
  where
    all : (k : ℕ) → list_all (is_within gates k) g.ins ≡ nat_le l k
    all k =
        ins_below gates (everywhere nets depth) k (within_by_depth gates (everywhere nets depth) (by_depth_everywhere nets gates depth fit r) k) g.ins
        ∙ ap (below k) (at_nets nets depth g.ins inside ∙ is)

    reaches : nat_le l l ≡ true
    reaches = grind (arith, nat_tests)

    falls : (k : ℕ) → k < l → nat_le l k ≡ false
    falls k less = grind (arith, nat_tests, less)
