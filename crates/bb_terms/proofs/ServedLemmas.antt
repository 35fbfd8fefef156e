-- Each stop of a plan that serves all nets has a source cell.
use Rattle.std.proofs.Common.{◌≡◌, ◌⊎◌, inl, inr, ℕ, zero, suc, ◌+◌, ◌<◌, ◌≤◌, ◌==◌, ◌||◌, List, [], ◌∷◌, ◌++◌, length, map, filter, nat_eq, Bool, true, false, cond, refl, ap, ◌∙◌, arith, slice_get, Some, Contains}
use Rattle.std.proofs.lemmas.Bool.Decides.{nat_tests}
use Rattle.std.specs.List.{list_any, range_with_len}
use Rattle.bb_base.specs.Net.{Gate, Flop, Netlist, driven, times, IsNetlist}
use Rattle.bb_base.specs.Order.{drivers, is_empty}
use Rattle.bb_base.proofs.TimesLemmas.{times_join, times_head}
use Rattle.bb_base.proofs.Lists.{get_map}
use Rattle.bb_terms.specs.Paths.{is_free}
use Rattle.bb_base.proofs.Contained.{here, there}
use Rattle.bb_terms.specs.declared.kind.Kind.{Kind}
use Rattle.bb_terms.specs.declared.kind.Kind.TheVariants.{Input, State, Split, Cut, Watch, Output}
use Rattle.bb_terms.specs.declared.plan.Cell.{Cell}
use Rattle.bb_terms.specs.Kinds.{is_source, is_cut}
use Rattle.bb_terms.specs.Plan.{PlanValue, chain}
use Rattle.bb_terms.specs.Lines.{is_stop, cut_nets}
use Rattle.bb_terms.specs.Rules.{Served, Holds, HasKind, IsServed, IsInput, IsQ}

-- a net that stands in a list stands at some place
stands_in : (net : ℕ) (xs : List ℕ) → 1 ≤ times net xs → (i : ℕ) × (slice_get xs i ≡ Some net)
stands_in net [] h = let none : 1 ≤ 0 = h in absurd (omega (arith, none))
stands_in net (x ∷ xs) h = by (x == net) refl (λ h. stands_in net xs h)
  where
    by : (b : Bool) → (x == net) ≡ b → (1 ≤ times net xs → (i : ℕ) × (slice_get xs i ≡ Some net)) → (i : ℕ) × (slice_get (x ∷ xs) i ≡ Some net)
    by true same rest = let e : x ≡ net = grind (arith, nat_tests, same) in (0, ap Some e)
    by false other rest =
        let count : times net (x ∷ xs) ≡ 0 + times net xs = times_head net x xs ∙ ap (λ b. cond b 1 0 + times net xs) other in
        let more = rest (omega (arith, h, count)) in
        (suc more.0, more.1)

-- a net that no gate drives is no gate's output
no_out : (net : ℕ) (gates : List (Gate ℕ)) → is_free gates net ≡ true → times net (map (λ g. g.out) gates) ≡ 0
no_out net [] h = refl
no_out net (g ∷ gates) h = by (g.out == net) refl h (λ h. no_out net gates h)
  where
    by : (b : Bool) → (g.out == net) ≡ b → is_empty (cond b (g ∷ drivers gates net) (drivers gates net)) ≡ true → (is_free gates net ≡ true → times net (map (λ g. g.out) gates) ≡ 0) → times net (map (λ g. g.out) (g ∷ gates)) ≡ 0
    by true same h rest = absurd (cc h)
    by false other h rest =
        let count : times net (map (λ g. g.out) (g ∷ gates)) ≡ 0 + times net (map (λ g. g.out) gates) = times_head net g.out (map (λ g. g.out) gates) ∙ ap (λ b. cond b 1 0 + times net (map (λ g. g.out) gates)) other in
        let none = rest h in
        omega (arith, count, none)

-- so it is an input or a q
pub input_or_q : (a : Netlist ℕ) (net : ℕ) → IsNetlist a → net < length (driven a) → is_free a.gates net ≡ true → IsInput a net ⊎ IsQ a net
input_or_q a net fits within free = by (times net a.inputs) refl
  where
    by : (k : ℕ) → times net a.inputs ≡ k → IsInput a net ⊎ IsQ a net
    by (suc k) e = inl (stands_in net a.inputs (omega (arith, e)))
    by zero e =
        let one = fits.one_driver net within in
        let first = times_join net a.inputs (map (λ g. g.out) a.gates ++ map (λ f. f.q) a.flops) in
        let second = times_join net (map (λ g. g.out) a.gates) (map (λ f. f.q) a.flops) in
        let none = no_out net a.gates free in
        let at = stands_in net (map (λ f. f.q) a.flops) (omega (arith, one, first, second, none, e)) in
        let flop = get_map (λ (f : Flop ℕ). f.q) a.flops at.0 net at.1 in
        inr (at.0, flop)

-- a source cell on the net
abbrev pub HasSource : List Cell → ℕ → Type 0
HasSource cells net = (c : Cell) × Contains cells c × (is_source c.kind ≡ true) × (c.net ≡ net)

-- a cut net has a Cut cell, and the net of a Cut cell is one
pub cut_cell : (net : ℕ) (cells : List Cell) → list_any (nat_eq net) (map (λ c. c.net) (filter (λ c. is_cut c.kind) cells)) ≡ true → (c : Cell) × Contains cells c × (is_cut c.kind ≡ true) × (c.net ≡ net)
cut_cell net [] h = absurd (cc h)
cut_cell net (c ∷ cells) h = by (is_cut c.kind) refl h (λ h. cut_cell net cells h)
  where
    later : (c : Cell) × Contains cells c × (is_cut c.kind ≡ true) × (c.net ≡ net) → (d : Cell) × Contains (c ∷ cells) d × (is_cut d.kind ≡ true) × (d.net ≡ net)
    later more = (more.0, there c cells more.0 more.1, more.2, more.3)

    on : is_cut c.kind ≡ true → (b : Bool) → nat_eq net c.net ≡ b → (b || list_any (nat_eq net) (map (λ c. c.net) (filter (λ c. is_cut c.kind) cells))) ≡ true
        → (list_any (nat_eq net) (map (λ c. c.net) (filter (λ c. is_cut c.kind) cells)) ≡ true → (c : Cell) × Contains cells c × (is_cut c.kind ≡ true) × (c.net ≡ net))
        → (d : Cell) × Contains (c ∷ cells) d × (is_cut d.kind ≡ true) × (d.net ≡ net)
    on cut true same h rest = (c, here c cells, cut, grind (arith, nat_tests, same))
    on cut false other h rest = later (rest h)

    by : (b : Bool) → is_cut c.kind ≡ b → list_any (nat_eq net) (map (λ c. c.net) (cond b (c ∷ filter (λ c. is_cut c.kind) cells) (filter (λ c. is_cut c.kind) cells))) ≡ true
        → (list_any (nat_eq net) (map (λ c. c.net) (filter (λ c. is_cut c.kind) cells)) ≡ true → (c : Cell) × Contains cells c × (is_cut c.kind ≡ true) × (c.net ≡ net))
        → (d : Cell) × Contains (c ∷ cells) d × (is_cut d.kind ≡ true) × (d.net ≡ net)
    by true cut h rest = on cut (nat_eq net c.net) refl h rest
    by false other h rest = later (rest h)

cut_is_source : (kind : Kind) → is_cut kind ≡ true → is_source kind ≡ true
cut_is_source Input h = absurd (cc h)
cut_is_source State h = absurd (cc h)
cut_is_source Split h = absurd (cc h)
cut_is_source Cut h = refl
cut_is_source Watch h = absurd (cc h)
cut_is_source Output h = absurd (cc h)

source_cut : (net : ℕ) (cells : List Cell) → list_any (nat_eq net) (map (λ c. c.net) (filter (λ c. is_cut c.kind) cells)) ≡ true → HasSource cells net
source_cut net cells h = let c = cut_cell net cells h in (c.0, c.1, cut_is_source c.0.kind c.2, c.3)

source_of_kind : (p : PlanValue) (kind : Kind) (net : ℕ) → is_source kind ≡ true → HasKind p kind net → HasSource (chain p) net
source_of_kind p kind net source h = (h.cell, h.stands, ap is_source h.of_kind ∙ source, h.on)

in_range : (from n i : ℕ) → i < n → slice_get (range_with_len from n) i ≡ Some (from + i)
in_range from zero i less = absurd (omega (arith, less))
in_range from (suc n) zero less = let e : from ≡ from + 0 = omega arith in ap Some e
in_range from (suc n) (suc i) less = let e : (from + 1) + i ≡ from + suc i = omega arith in in_range (from + 1) n i (omega (arith, less)) ∙ ap Some e

-- a net of the netlist is served
pub served_at : (a : Netlist ℕ) (p : PlanValue) (net : ℕ) → Holds a p Served → net < length (driven a) → IsServed a p net
served_at a p net served within = served net net (let e : 0 + net ≡ net = omega arith in in_range 0 (length (driven a)) net within ∙ ap Some e)

-- each stop has a source cell
pub source_on : (a : Netlist ℕ) (p : PlanValue) (net : ℕ) → IsNetlist a → Holds a p Served → net < length (driven a) → is_stop a p net ≡ true → HasSource (chain p) net
source_on a p net fits served within stops = by (is_free a.gates net) refl stops
  where
    here_served : IsServed a p net
    here_served = served_at a p net served within

    of_q : HasKind p State net ⊎ (HasKind p Split net × HasKind p Watch net) → HasSource (chain p) net
    of_q (inl h) = source_of_kind p State net refl h
    of_q (inr h) = source_of_kind p Split net refl h.0

    of_free : IsInput a net ⊎ IsQ a net → HasSource (chain p) net
    of_free (inl i) = source_of_kind p Input net refl (here_served.input i)
    of_free (inr q) = of_q (here_served.flop q)

    by : (b : Bool) → is_free a.gates net ≡ b → (b || list_any (nat_eq net) (cut_nets p)) ≡ true → HasSource (chain p) net
    by true free h = of_free (input_or_q a net fits within free)
    by false driven h = source_cut net (chain p) h
