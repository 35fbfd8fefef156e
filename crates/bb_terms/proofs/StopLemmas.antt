-- Where walks stop, and the cells that observe and give what is there.
use Rattle.std.proofs.Common.{◌≡◌, ◌↔◌, ◌⊎◌, inl, inr, ℕ, ◌<◌, ◌||◌, nat_eq, Bool, true, false, List, [], ◌∷◌, length, map, filter, cond, refl, sym, ap, subst, ◌∙◌, arith, Contains, slice_get, Some}
use Rattle.std.proofs.lemmas.Bool.Decides.{nat_tests}
use Rattle.std.specs.List.{list_any}
use Rattle.bb_base.specs.Net.{Gate, Flop, Netlist, driven, IsNetlist}
use Rattle.bb_base.proofs.Contained.{either, none_in, contains_at, place_of}
use Rattle.bb_terms.specs.Paths.{Start, AtNet, Behind, starts, is_free, IsPathBack}
use Rattle.bb_terms.specs.declared.kind.Kind.{Kind}
use Rattle.bb_terms.specs.declared.kind.Kind.TheVariants.{Input, State, Split, Cut, Watch, Output}
use Rattle.bb_terms.specs.declared.plan.Cell.{Cell}
use Rattle.bb_terms.specs.Kinds.{is_source, is_cut, is_flop, takes_d}
use Rattle.bb_terms.specs.Plan.{PlanValue, chain}
use Rattle.bb_terms.specs.Lines.{is_stop, cut_nets, d_of, IsStartOf, IsStart, IsLeafOf}
use Rattle.bb_terms.specs.Rules.{Kinds, Served, Holds, HasKind, IsInput, IsQ, MayStand, Fits}
use Rattle.bb_terms.specs.Sources.{IsSourceAt}
use Rattle.bb_terms.proofs.NetLemmas.{d_is, input_within, d_within, free_input, free_q, q_net, q_within}
use Rattle.bb_terms.proofs.ServedLemmas.{cut_cell, source_on, served_at, input_or_q}

cut_kind : (kind : Kind) → is_cut kind ≡ true → kind ≡ Cut
cut_kind Input h = absurd (cc h)
cut_kind State h = absurd (cc h)
cut_kind Split h = absurd (cc h)
cut_kind Cut h = refl
cut_kind Watch h = absurd (cc h)
cut_kind Output h = absurd (cc h)

-- a stop is free, or a cut net
pub stop_cases : (a : Netlist ℕ) (p : PlanValue) (net : ℕ) → is_stop a p net ≡ true → (is_free a.gates net ≡ true) ⊎ HasKind p Cut net
stop_cases a p net stops = by (is_free a.gates net) refl stops
  where
    by : (b : Bool) → is_free a.gates net ≡ b → (b || list_any (nat_eq net) (cut_nets p)) ≡ true → (is_free a.gates net ≡ true) ⊎ HasKind p Cut net
    by true free h = inl free
    by false driven h = let c = cut_cell net (chain p) h in inr (record { cell = c.0; stands = c.1; of_kind = cut_kind c.0.kind c.2; on = c.3 })

cut_listed : (net : ℕ) (cells : List Cell) (c : Cell) → Contains cells c → c.kind ≡ Cut → c.net ≡ net → list_any (nat_eq net) (map (λ c. c.net) (filter (λ c. is_cut c.kind) cells)) ≡ true
cut_listed net [] c h cut on = absurd (none_in c h)
cut_listed net (d ∷ cells) c h cut on = by (either d cells c h) (λ h. cut_listed net cells c h cut on)
  where
    or_right : (x y : Bool) → y ≡ true → (x || y) ≡ true
    or_right true y h = refl
    or_right false y h = h

    later : (b : Bool) → list_any (nat_eq net) (map (λ c. c.net) (filter (λ c. is_cut c.kind) cells)) ≡ true → list_any (nat_eq net) (map (λ c. c.net) (cond b (d ∷ filter (λ c. is_cut c.kind) cells) (filter (λ c. is_cut c.kind) cells))) ≡ true
    later true h = or_right (nat_eq net d.net) _ h
    later false h = h

    first : d ≡ c → (b : Bool) → is_cut d.kind ≡ b → (t : Bool) → nat_eq net d.net ≡ t → list_any (nat_eq net) (map (λ c. c.net) (cond b (d ∷ filter (λ c. is_cut c.kind) cells) (filter (λ c. is_cut c.kind) cells))) ≡ true
    first same true e true f = ap (λ t. t || list_any (nat_eq net) (map (λ c. c.net) (filter (λ c. is_cut c.kind) cells))) f
    first same true e false f = absurd (let one : d.net ≡ net = ap (λ (e : Cell). e.net) same ∙ on in grind (arith, nat_tests, f, one))
    first same false e t f = absurd (let is : is_cut d.kind ≡ true = ap (λ (e : Cell). is_cut e.kind) same ∙ ap is_cut cut in cc (e, is))

    by : (d ≡ c) ⊎ Contains cells c → (Contains cells c → list_any (nat_eq net) (map (λ c. c.net) (filter (λ c. is_cut c.kind) cells)) ≡ true)
        → list_any (nat_eq net) (map (λ c. c.net) (cond (is_cut d.kind) (d ∷ filter (λ c. is_cut c.kind) cells) (filter (λ c. is_cut c.kind) cells))) ≡ true
    by (inl same) rest = first same (is_cut d.kind) refl (nat_eq net d.net) refl
    by (inr h) rest = later (is_cut d.kind) (rest h)

-- and the other way round
pub cut_stops : (a : Netlist ℕ) (p : PlanValue) (net : ℕ) → HasKind p Cut net → is_stop a p net ≡ true
cut_stops a p net h = or_right (is_free a.gates net) (list_any (nat_eq net) (cut_nets p)) (cut_listed net (chain p) h.cell h.stands h.of_kind h.on)
  where
    or_right : (x y : Bool) → y ≡ true → (x || y) ≡ true
    or_right true y h = refl
    or_right false y h = h

pub free_stops : (a : Netlist ℕ) (p : PlanValue) (net : ℕ) → is_free a.gates net ≡ true → is_stop a p net ≡ true
free_stops a p net h = ap (λ b. b || list_any (nat_eq net) (cut_nets p)) h

-- walks stop exactly at inputs, q's and cut nets
pub stops_are : (a : Netlist ℕ) (p : PlanValue) (net : ℕ) → IsNetlist a → net < length (driven a) → (is_stop a p net ≡ true) ↔ (IsInput a net ⊎ (IsQ a net ⊎ HasKind p Cut net))
stops_are a p net fits within = (λ h. forth (stop_cases a p net h), back)
  where
    free : IsInput a net ⊎ IsQ a net → IsInput a net ⊎ (IsQ a net ⊎ HasKind p Cut net)
    free (inl i) = inl i
    free (inr q) = inr (inl q)

    forth : (is_free a.gates net ≡ true) ⊎ HasKind p Cut net → IsInput a net ⊎ (IsQ a net ⊎ HasKind p Cut net)
    forth (inl h) = free (input_or_q a net fits within h)
    forth (inr c) = inr (inr c)

    back : IsInput a net ⊎ (IsQ a net ⊎ HasKind p Cut net) → is_stop a p net ≡ true
    back (inl i) = free_stops a p net (free_input a net fits i)
    back (inr (inl q)) = free_stops a p net (free_q a net fits q)
    back (inr (inr c)) = cut_stops a p net c

-- a stop has a source cell
pub source_at : (a : Netlist ℕ) (p : PlanValue) (net : ℕ) → IsNetlist a → Holds a p Served → net < length (driven a) → is_stop a p net ≡ true → (i : ℕ) × IsSourceAt p net i
source_at a p net fits served within stops =
    let c = source_on a p net fits served within stops in
    let there = place_of (chain p) c.0 c.1 in
    (there.0, record { source = c.0; stands = there.1; generates = c.2; on = c.3 })

-- and a source cell stands on a stop, where it fits
pub source_stops : (a : Netlist ℕ) (p : PlanValue) (net i : ℕ) → IsNetlist a → Holds a p Kinds → IsSourceAt p net i → is_stop a p net ≡ true
source_stops a p net i fits kinds h = by h.source.kind refl (subst (MayStand a h.source.kind) h.on (kinds i h.source h.stands))
  where
    by : (kind : Kind) → h.source.kind ≡ kind → MayStand a h.source.kind net → is_stop a p net ≡ true
    by Input e may = free_stops a p net (free_input a net fits (subst (λ k. MayStand a k net) e may))
    by State e may = free_stops a p net (free_q a net fits (subst (λ k. MayStand a k net) e may))
    by Split e may = free_stops a p net (free_q a net fits (subst (λ k. MayStand a k net) e may))
    by Cut e may = cut_stops a p net (record { cell = h.source; stands = contains_at (chain p) i h.source h.stands; of_kind = e; on = h.on })
    by Watch e may = absurd (let none : is_source h.source.kind ≡ false = ap is_source e in let some = h.generates in cc (none, some))
    by Output e may = absurd (let none : is_source h.source.kind ≡ false = ap is_source e in let some = h.generates in cc (none, some))

pub stops_have_sources : (a : Netlist ℕ) (p : PlanValue) (net : ℕ) → IsNetlist a → Holds a p Kinds → Holds a p Served → net < length (driven a) → (is_stop a p net ≡ true) ↔ ((i : ℕ) × IsSourceAt p net i)
stops_have_sources a p net fits kinds served within = (source_at a p net fits served within, λ h. source_stops a p net h.0 fits kinds h.1)

-- where a cell of a kind on a net starts its walk
pub starts_as : (a : Netlist ℕ) (p : PlanValue) (kind : Kind) (net : ℕ) (start : Start ℕ) (h : HasKind p kind net) → IsStartOf a kind net start → IsStart a h.cell start
starts_as a p kind net start h begins = subst (λ k. IsStartOf a k h.cell.net start) (sym h.of_kind) (subst (λ n. IsStartOf a kind n start) (sym h.on) begins)

-- the cell that gives a flip-flop's q, and the one that observes its d
abbrev pub GivesQ : PlanValue → Flop ℕ → Type 0
GivesQ p f = (c : Cell) × Contains (chain p) c × (is_flop c.kind ≡ true) × (c.net ≡ f.q)

abbrev pub TakesD : Netlist ℕ → PlanValue → Flop ℕ → Type 0
TakesD a p f = (c : Cell) × Contains (chain p) c × (takes_d c.kind ≡ true) × (c.net ≡ f.q) × IsStart a c (AtNet f.d)

module _ (a : Netlist ℕ) (p : PlanValue) (f : Flop ℕ) (fits : IsNetlist a) (served : Holds a p Served) (c : Contains a.flops f) where
  served_flop : HasKind p State f.q ⊎ (HasKind p Split f.q × HasKind p Watch f.q)
  served_flop = (served_at a p f.q served (q_within a f fits c)).flop (q_net a f c)

  pub gives_q : GivesQ p f
  gives_q = by served_flop
    where
      by : HasKind p State f.q ⊎ (HasKind p Split f.q × HasKind p Watch f.q) → GivesQ p f
      by (inl h) = (h.cell, h.stands, ap is_flop h.of_kind, h.on)
      by (inr h) = (h.0.cell, h.0.stands, ap is_flop h.0.of_kind, h.0.on)

  pub takes_its_d : TakesD a p f
  takes_its_d = by served_flop
    where
      begins : AtNet f.d ≡ AtNet (d_of a.flops f.q)
      begins = ap AtNet (sym (d_is a f fits c))

      by : HasKind p State f.q ⊎ (HasKind p Split f.q × HasKind p Watch f.q) → TakesD a p f
      by (inl h) = (h.cell, h.stands, ap takes_d h.of_kind, h.on, starts_as a p State f.q (AtNet f.d) h begins)
      by (inr h) = (h.1.cell, h.1.stands, ap takes_d h.1.of_kind, h.1.on, starts_as a p Watch f.q (AtNet f.d) h.1 begins)

-- a cell that is a flip-flop stands on a net that no gate drives
pub flop_free : (a : Netlist ℕ) (p : PlanValue) (i : ℕ) (c : Cell) → IsNetlist a → Holds a p Kinds → slice_get (chain p) i ≡ Some c → is_flop c.kind ≡ true → is_free a.gates c.net ≡ true
flop_free a p i c fits kinds at flop = by c.kind flop (kinds i c at)
  where
    by : (kind : Kind) → is_flop kind ≡ true → MayStand a kind c.net → is_free a.gates c.net ≡ true
    by Input flop may = absurd (cc flop)
    by State flop may = free_q a c.net fits may
    by Split flop may = free_q a c.net fits may
    by Cut flop may = absurd (cc flop)
    by Watch flop may = absurd (cc flop)
    by Output flop may = absurd (cc flop)

-- a path from a net stays among nets
path_within : (a : Netlist ℕ) (stop : ℕ → Bool) (path : List ℕ) (net last : ℕ) → IsNetlist a → net < length (driven a) → IsPathBack a.gates stop net path last → last < length (driven a)
path_within a stop [] net last fits within h = subst (λ n. n < length (driven a)) h within
path_within a stop (next ∷ path) net last fits within h = path_within a stop path next last fits (input_within a h.1.gate next fits h.1.stands h.1.reads) h.2

starts_within : (a : Netlist ℕ) (c : Cell) (start : Start ℕ) (net : ℕ) → IsNetlist a → Fits a c → IsStart a c start → Contains (starts start) net → net < length (driven a)
starts_within a c start net fits may begins stands = by c.kind may begins
  where
    of_d : IsQ a c.net → start ≡ AtNet (d_of a.flops c.net) → net < length (driven a)
    of_d q e =
        let at = contains_at a.flops q.0 q.1.0 q.1.1 in
        let d : d_of a.flops c.net ≡ q.1.0.d = ap (d_of a.flops) (sym q.1.2) ∙ d_is a q.1.0 fits at in
        let one : Contains (d_of a.flops c.net ∷ []) net = subst (λ s. Contains (starts s) net) e stands in
        only (either (d_of a.flops c.net) [] net one) (subst (λ n. n < length (driven a)) (sym d) (d_within a q.1.0 fits at))
      where
        only : (d_of a.flops c.net ≡ net) ⊎ Contains [] net → d_of a.flops c.net < length (driven a) → net < length (driven a)
        only (inl same) within = subst (λ n. n < length (driven a)) same within
        only (inr none) within = absurd (none_in net none)

    of_gate : (g : Gate ℕ) → Contains a.gates g → start ≡ Behind g → net < length (driven a)
    of_gate g at e = input_within a g net fits at (subst (λ s. Contains (starts s) net) e stands)

    by : (kind : Kind) → MayStand a kind c.net → IsStartOf a kind c.net start → net < length (driven a)
    by Input may begins = absurd begins
    by State may begins = of_d may begins
    by Split may begins = of_d may begins
    by Cut may begins = of_gate begins.0 begins.1 begins.3
    by Watch may begins = of_d may begins
    by Output may begins = of_gate begins.0 begins.1 begins.3

-- a leaf of a line is a net
pub leaf_within : (a : Netlist ℕ) (p : PlanValue) (c : Cell) (net : ℕ) → IsNetlist a → Fits a c → IsLeafOf a p c net → net < length (driven a)
leaf_within a p c net fits may h =
    path_within a (is_stop a p) h.leaf.0.path h.leaf.0.first net fits (starts_within a c h.start h.leaf.0.first fits may h.begins h.leaf.0.stands) h.leaf.0.leads
