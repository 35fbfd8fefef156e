-- Ranks of the written netlist's nets, by sites.
use Rattle.std.proofs.Common.{arith, ◌≡◌, ◌≢◌, ◌⊎◌, inl, inr, ℕ, suc, ◌*◌, ◌<◌, ◌&&◌, Bool, true, false, if◌then◌else◌, List, [], ◌∷◌, length, map, refl, sym, ap, subst, ◌∙◌, Contains, Option, Some, None, slice_get}
use Rattle.std.specs.List.{AllByRecursion, flat_map}
use Rattle.bb_base.specs.OwnNames.{is_reserved}
use Rattle.bb_base.specs.Variables.{Entry}
use Rattle.bb_base.proofs.Contained.{of_all, to_all, either, none_in, at_place, by_place, place_of, contains_at}
use Rattle.bb_base.proofs.Lists.{all_join, all_parts}
use Rattle.bb_base.specs.Net.{Gate, Flop, Netlist, driven, renamed_gate}
use Rattle.bb_base.specs.Order.{HasRanks, FallsAlong, drivers, is_empty}
use Rattle.bb_base.proofs.GateLemmas.{flop_undriven}
use Rattle.bb_base.specs.Named.{Named, IsNamed, name_of_net}
use Rattle.bb_net.specs.Sites.{Site, sited, site_of, site_in}
use Rattle.bb_net.proofs.SiteLemmas.{site_eq, site_decides}
use Rattle.bb_net.proofs.Renaming.{net_named, found}
use Rattle.bb_net.proofs.Designs.{sites_one}
use Rattle.bb_terms.specs.Plan.{PlanValue, chain}
use Rattle.bb_terms.specs.Kinds.{is_flop}
use Rattle.bb_terms.specs.Rules.{Holds, Kinds, IsQ, Fits, MayStand}
use Rattle.bb_terms.specs.declared.kind.Kind.{Kind}
use Rattle.bb_terms.specs.declared.kind.Kind.TheVariants.{Input, State, Split, Cut, Watch, Output}
use Rattle.bb_terms.proofs.NetLemmas.{input_within, out_within, q_within}
use Rattle.bb_base.proofs.CycleLemmas.{driver_there}
use Rattle.bb_terms.specs.declared.plan.Cell.{Cell}
use Rattle.bb_terms.specs.declared.wire.Wire.{Wire}
use Rattle.bb_terms.specs.declared.wire.Wire.TheVariants.{Kept, Test, Init, So, Done, NotInit, NotTest, Go, NotGo, Parity, Low, Feed, Word, WordNext, Wrap, Phase, PhaseTurned, PhaseNext, Advance, NotAdvance, Ring, RingKept, RingMoved, RingOr, RingNext, NotOver, Live, NotPhase, Running, Shifting, On, Compacts, Latches, Takes, Off, Codes, Feedback, Signed, Carried, First, Line, Chain, Code, Coded, Next, InTest, InNormal, Read, Held}
use Rattle.bb_terms.specs.Wires.{symbol_name}
use Rattle.bb_written.specs.Written.{wire_site, written_netlist, written, scalar_site}
use Rattle.bb_written.specs.Falling.{Falls, wire_rank, IsSettledFirst, HasNoLoop}
use Rattle.bb_normal.specs.Mirrors.{Mirrors}
use Rattle.bb_ctl.specs.OwnNames.{IsOwnName, HasOwnNames}
use Rattle.bb_terms.specs.Wires.{IsAdded}
use Rattle.bb_ctl.proofs.Names.{names_differ, added_reserved, never_made}
use Rattle.bb_normal.proofs.Numbered.{IsNumbered, RowNumbered}

abbrev pub is_new : Wire → Bool
is_new (Kept net) = false
is_new w = true

-- an added net: its name is its site
pub record New (w : Wire) : Type 0 where
  pub added : IsAdded w
  pub new : is_new w ≡ true
  pub site : (a : Named) → wire_site a w ≡ scalar_site (symbol_name w)

-- a net is the original's or an added one
pub data Side (w : Wire) : Type 0 where
  IsKept : (net : ℕ) (is : w ≡ Kept net) → Side w
  IsNew : (new : New w) → Side w

pub side : (count : ℕ) (w : Wire) → IsNumbered count w → Side w
side count (Kept net) h = IsKept net refl
side count Test h = IsNew (record { added = h; new = refl; site = λ a. refl })
side count Init h = IsNew (record { added = h; new = refl; site = λ a. refl })
side count So h = IsNew (record { added = h; new = refl; site = λ a. refl })
side count Done h = IsNew (record { added = h; new = refl; site = λ a. refl })
side count NotInit h = IsNew (record { added = h; new = refl; site = λ a. refl })
side count NotTest h = IsNew (record { added = h; new = refl; site = λ a. refl })
side count Go h = IsNew (record { added = h; new = refl; site = λ a. refl })
side count NotGo h = IsNew (record { added = h; new = refl; site = λ a. refl })
side count Parity h = IsNew (record { added = h; new = refl; site = λ a. refl })
side count Low h = IsNew (record { added = h; new = refl; site = λ a. refl })
side count Feed h = IsNew (record { added = h; new = refl; site = λ a. refl })
side count Wrap h = IsNew (record { added = h; new = refl; site = λ a. refl })
side count Phase h = IsNew (record { added = h; new = refl; site = λ a. refl })
side count PhaseTurned h = IsNew (record { added = h; new = refl; site = λ a. refl })
side count PhaseNext h = IsNew (record { added = h; new = refl; site = λ a. refl })
side count Advance h = IsNew (record { added = h; new = refl; site = λ a. refl })
side count NotAdvance h = IsNew (record { added = h; new = refl; site = λ a. refl })
side count NotOver h = IsNew (record { added = h; new = refl; site = λ a. refl })
side count Live h = IsNew (record { added = h; new = refl; site = λ a. refl })
side count NotPhase h = IsNew (record { added = h; new = refl; site = λ a. refl })
side count Running h = IsNew (record { added = h; new = refl; site = λ a. refl })
side count Shifting h = IsNew (record { added = h; new = refl; site = λ a. refl })
side count (Word i) h = IsNew (record { added = h; new = refl; site = λ a. refl })
side count (WordNext i) h = IsNew (record { added = h; new = refl; site = λ a. refl })
side count (Ring i) h = IsNew (record { added = h; new = refl; site = λ a. refl })
side count (RingKept i) h = IsNew (record { added = h; new = refl; site = λ a. refl })
side count (RingMoved i) h = IsNew (record { added = h; new = refl; site = λ a. refl })
side count (RingOr i) h = IsNew (record { added = h; new = refl; site = λ a. refl })
side count (RingNext i) h = IsNew (record { added = h; new = refl; site = λ a. refl })
side count (On i) h = IsNew (record { added = h; new = refl; site = λ a. refl })
side count (Compacts i) h = IsNew (record { added = h; new = refl; site = λ a. refl })
side count (Latches i) h = IsNew (record { added = h; new = refl; site = λ a. refl })
side count (Takes i) h = IsNew (record { added = h; new = refl; site = λ a. refl })
side count (Off i) h = IsNew (record { added = h; new = refl; site = λ a. refl })
side count (Codes i) h = IsNew (record { added = h; new = refl; site = λ a. refl })
side count (Feedback i) h = IsNew (record { added = h; new = refl; site = λ a. refl })
side count (Signed i) h = IsNew (record { added = h; new = refl; site = λ a. refl })
side count (Carried i) h = IsNew (record { added = h; new = refl; site = λ a. refl })
side count (First i) h = IsNew (record { added = h; new = refl; site = λ a. refl })
side count (Line i) h = IsNew (record { added = h; new = refl; site = λ a. refl })
side count (Chain i) h = IsNew (record { added = h; new = refl; site = λ a. refl })
side count (Code i) h = IsNew (record { added = h; new = refl; site = λ a. refl })
side count (Coded i) h = IsNew (record { added = h; new = refl; site = λ a. refl })
side count (Next i) h = IsNew (record { added = h; new = refl; site = λ a. refl })
side count (InTest i) h = IsNew (record { added = h; new = refl; site = λ a. refl })
side count (InNormal i) h = IsNew (record { added = h; new = refl; site = λ a. refl })
side count (Read i) h = IsNew (record { added = h; new = refl; site = λ a. refl })
side count (Held i) h = IsNew (record { added = h; new = refl; site = λ a. refl })

-- added nets have sites of their own ------------------------------------------------

-- no net of the original has the site of an added one
module _ (a : Named) (own : HasOwnNames a) where
  name_apart : (o : Option Entry) (place : ℕ) (w : Wire) → IsAdded w → ((v : Entry) → o ≡ Some v → IsOwnName v.0) → scalar_site (symbol_name w) ≢ site_in o place
  name_apart None place w h names e =
      let empty : is_reserved (symbol_name w) ≡ false = ap (λ (s : Site). is_reserved s.name) e in
      cc (sym (added_reserved w h) ∙ empty)
  name_apart (Some v) place w h names e =
      let name : symbol_name w ≡ v.0 = ap (λ (s : Site). s.name) e in
      let made = names v refl (sym (ap is_reserved name) ∙ added_reserved w h) in
      never_made w made.0 h made.1 (name ∙ made.2)

  pub site_apart : (net : ℕ) (w : Wire) → New w → wire_site a w ≢ site_of a net
  site_apart net w h e =
      name_apart (slice_get a.variables (name_of_net a net).variable) (name_of_net a net).place w h.added
      (λ v at. at_place (λ (x : Entry). IsOwnName x.0) a.variables (name_of_net a net).variable v own at) (sym (h.site a) ∙ e)

pub new_sites_differ : (a : Named) (v w : Wire) → New v → New w → wire_site a v ≡ wire_site a w → v ≡ w
new_sites_differ a v w hv hw e = names_differ v w hv.added hw.added (ap (λ (s : Site). s.name) (sym (hv.site a) ∙ e ∙ hw.site a))

-- a rank of sites from a rank of symbols --------------------------------------------

-- all nets that stand at these gates
abbrev wires : List (Gate Wire) → List Wire
wires gates = flat_map (λ g. g.out ∷ g.ins) gates

-- the rank of the first added net at this site, or else of the site
abbrev rank_in : Named → (Wire → ℕ) → (Site → ℕ) → List Wire → Site → ℕ
rank_in a rank own [] s = own s
rank_in a rank own (w ∷ ws) s = if is_new w && site_eq (wire_site a w) s then rank w else rank_in a rank own ws s

module _ (count : ℕ) (a : Named) (own_names : HasOwnNames a) (rank : Wire → ℕ) (own : Site → ℕ) where
  kept_there : (ws : List Wire) (net : ℕ) → AllByRecursion (IsNumbered count) ws → rank_in a rank own ws (site_of a net) ≡ own (site_of a net)
  kept_there [] net all = refl
  kept_there (w ∷ ws) net all = by (side count w all.0) (site_eq (wire_site a w) (site_of a net)) refl (kept_there ws net all.1)
    where
      by : Side w → (b : Bool) → site_eq (wire_site a w) (site_of a net) ≡ b → rank_in a rank own ws (site_of a net) ≡ own (site_of a net) → rank_in a rank own (w ∷ ws) (site_of a net) ≡ own (site_of a net)
      by (IsKept m is) b e rest = ap (λ (x : Wire). if is_new x && site_eq (wire_site a x) (site_of a net) then rank x else rank_in a rank own ws (site_of a net)) is ∙ rest
      by (IsNew h) true e rest = absurd (site_apart a own_names net w h ((site_decides (wire_site a w) (site_of a net)).0 e))
      by (IsNew h) false e rest = ap (λ (b : Bool). if b then rank w else rank_in a rank own ws (site_of a net)) (ap (λ t. t && site_eq (wire_site a w) (site_of a net)) h.new ∙ e) ∙ rest

  new_there : (ws : List Wire) (x : Wire) → New x → AllByRecursion (IsNumbered count) ws → Contains ws x → rank_in a rank own ws (wire_site a x) ≡ rank x
  new_there [] x h all c = absurd (none_in x c)
  new_there (w ∷ ws) x h all c = by (side count w all.0) (site_eq (wire_site a w) (wire_site a x)) refl (either w ws x c) (new_there ws x h all.1)
    where
      there_is : (hw : New w) (b : Bool) → site_eq (wire_site a w) (wire_site a x) ≡ b → rank_in a rank own (w ∷ ws) (wire_site a x) ≡ (if b then rank w else rank_in a rank own ws (wire_site a x))
      there_is hw b e = ap (λ (t : Bool). if t then rank w else rank_in a rank own ws (wire_site a x)) (ap (λ t. t && site_eq (wire_site a w) (wire_site a x)) hw.new ∙ e)

      by : Side w → (b : Bool) → site_eq (wire_site a w) (wire_site a x) ≡ b → (w ≡ x) ⊎ Contains ws x → (Contains ws x → rank_in a rank own ws (wire_site a x) ≡ rank x)
          → rank_in a rank own (w ∷ ws) (wire_site a x) ≡ rank x
      by (IsKept m is) b e (inl same) rest = absurd (subst IsAdded (sym same ∙ is) h.added)
      by (IsKept m is) b e (inr more) rest = ap (λ (y : Wire). if is_new y && site_eq (wire_site a y) (wire_site a x) then rank y else rank_in a rank own ws (wire_site a x)) is ∙ rest more
      by (IsNew hw) true e c rest = there_is hw true e ∙ ap rank (new_sites_differ a w x hw h ((site_decides (wire_site a w) (wire_site a x)).0 e))
      by (IsNew hw) false e (inl same) rest = absurd (cc (e, (site_decides (wire_site a w) (wire_site a x)).1 (ap (wire_site a) same)))
      by (IsNew hw) false e (inr more) rest = there_is hw false e ∙ rest more

  -- nets with ranks by symbols have ranks by sites
  abbrev Fine : List Wire → Wire → Type 0
  Fine ws x = rank_in a rank own ws (wire_site a x) ≡ rank x

  fine : ((net : ℕ) → rank (Kept net) ≡ own (site_of a net)) → (ws : List Wire) → AllByRecursion (IsNumbered count) ws → (x : Wire) → Contains ws x → Fine ws x
  fine kept ws all x c = by (side count x (of_all (IsNumbered count) ws x all c))
    where
      by : Side x → Fine ws x
      by (IsKept net is) = subst (Fine ws) (sym is) (kept_there ws net all ∙ sym (kept net))
      by (IsNew h) = new_there ws x h all c

  wires_numbered : (gates : List (Gate Wire)) → AllByRecursion (RowNumbered count) gates → AllByRecursion (IsNumbered count) (wires gates)
  wires_numbered [] all = tt
  wires_numbered (g ∷ gates) all = all_join (IsNumbered count) (g.out ∷ g.ins) (wires gates) all.0 (wires_numbered gates all.1)

  pub site_falls : (gates : List (Gate Wire)) → ((net : ℕ) → rank (Kept net) ≡ own (site_of a net)) → AllByRecursion (RowNumbered count) gates → AllByRecursion (Falls rank) gates
      → AllByRecursion (FallsAlong (rank_in a rank own (wires gates))) (map (renamed_gate (wire_site a)) gates)
  site_falls gates kept all falls =
      let ws = wires gates in
      let each : AllByRecursion (Fine ws) ws = to_all (Fine ws) ws (fine kept ws (wires_numbered gates all)) in
      walk ws gates (all_parts (Fine ws) (λ g. g.out ∷ g.ins) gates each) falls
    where
      ins_fall : (ws : List Wire) (out : Wire) (ns : List Wire) → Fine ws out → AllByRecursion (Fine ws) ns → AllByRecursion (λ m. rank m < rank out) ns
          → AllByRecursion (λ s. rank_in a rank own ws s < rank_in a rank own ws (wire_site a out)) (map (wire_site a) ns)
      ins_fall ws out [] f fs h = tt
      ins_fall ws out (n ∷ ns) f fs h = (let one = fs.0 in let less = h.0 in omega (arith, f, one, less), ins_fall ws out ns f fs.1 h.1)

      walk : (ws : List Wire) (gs : List (Gate Wire)) → AllByRecursion (λ g. AllByRecursion (Fine ws) (g.out ∷ g.ins)) gs → AllByRecursion (Falls rank) gs → AllByRecursion (FallsAlong (rank_in a rank own ws)) (map (renamed_gate (wire_site a)) gs)
      walk ws [] fs h = tt
      walk ws (g ∷ gs) fs h = (ins_fall ws g.out g.ins fs.0.0 fs.0.1 h.0, walk ws gs fs.1 h.1)

-- ranks of the original's nets, 0 where no gate drives ------------------------------

-- a gate's net has a driver
driven_some : (gates : List (Gate ℕ)) (g : Gate ℕ) → Contains gates g → is_empty (drivers gates g.out) ≡ false
driven_some gates g c = by (drivers gates g.out) refl
  where
    by : (ds : List (Gate ℕ)) → drivers gates g.out ≡ ds → is_empty ds ≡ false
    by [] e = absurd (driven_net_free e)
      where
        driven_net_free : drivers gates g.out ≡ [] → ⊥
        driven_net_free e = let at = place_of gates g c in let found = driver_there gates g.out at.0 g at.1 refl in none found.0 (subst (λ ds. slice_get ds found.0 ≡ Some g) e found.1)
          where
            none : (k : ℕ) → slice_get {X = Gate ℕ} [] k ≡ Some g → ⊥
            none k e = cc e
    by (d ∷ ds) e = refl

-- a flip-flop's cell stands on its q
kind_q : (a : Netlist ℕ) (c : Cell) → Fits a c → is_flop c.kind ≡ true → IsQ a c.net
kind_q a c fits is = by c.kind fits is
  where
    by : (k : Kind) → MayStand a k c.net → is_flop k ≡ true → IsQ a c.net
    by State h e = h
    by Split h e = h
    by Input h e = cc e
    by Cut h e = cc e
    by Watch h e = cc e
    by Output h e = cc e

module _ (a : Named) (named : IsNamed a) (ranks : HasRanks a.netlist.gates) where
  abbrev own_rank : ℕ → ℕ
  own_rank net = if is_empty (drivers a.netlist.gates net) then 0 else suc (ranks.0 net)

  abbrev net_at : Site → ℕ
  net_at = net_named site_eq site_decides (site_of a) a.netlist named.netlist (sites_one a named)

  net_found : (net : ℕ) → net < length (driven a.netlist) → net_at (site_of a net) ≡ net
  net_found = found site_eq site_decides (site_of a) a.netlist named.netlist (sites_one a named)

  -- the rank of a net, by its site
  abbrev site_rank : Site → ℕ
  site_rank s = own_rank (net_at s)

  same_rank : (net : ℕ) → net < length (driven a.netlist) → site_rank (site_of a net) ≡ own_rank net
  same_rank net small = ap own_rank (net_found net small)

  below_gate : (m out : ℕ) → is_empty (drivers a.netlist.gates out) ≡ false → ranks.0 m < ranks.0 out → own_rank m < own_rank out
  below_gate m out some less = by (is_empty (drivers a.netlist.gates m)) (ap (λ (b : Bool). if b then 0 else suc (ranks.0 out)) some)
    where
      by : (b : Bool) → own_rank out ≡ suc (ranks.0 out) → (if b then 0 else suc (ranks.0 m)) < own_rank out
      by true e = omega (arith, e)
      by false e = omega (arith, e, less)

  own_falls : AllByRecursion (Falls (λ net. site_rank (site_of a net))) a.netlist.gates
  own_falls = to_all (Falls (λ net. site_rank (site_of a net))) a.netlist.gates gate
    where
      gate : (g : Gate ℕ) → Contains a.netlist.gates g → Falls (λ net. site_rank (site_of a net)) g
      gate g c = to_all (λ m. site_rank (site_of a m) < site_rank (site_of a g.out)) g.ins input
        where
          input : (m : ℕ) → Contains g.ins m → site_rank (site_of a m) < site_rank (site_of a g.out)
          input m r =
              let falls : ranks.0 m < ranks.0 g.out = of_all (λ n. ranks.0 n < ranks.0 g.out) g.ins m (of_all (FallsAlong ranks.0) a.netlist.gates g ranks.1 c) r in
              let low = same_rank m (input_within a.netlist g m named.netlist c r) in
              let high = same_rank g.out (out_within a.netlist g named.netlist c) in
              let less = below_gate m g.out (driven_some a.netlist.gates g c) falls in
              omega (arith, low, high, less)

  own_settled : (p : PlanValue) → Holds a.netlist p Kinds → AllByRecursion (IsSettledFirst (λ net. site_rank (site_of a net))) (chain p)
  own_settled p kinds = by_place (IsSettledFirst (λ net. site_rank (site_of a net))) (chain p) (λ i c at is. q_settled c (kind_q a.netlist c (kinds i c at) is))
    where
      q_settled : (c : Cell) → IsQ a.netlist c.net → site_rank (site_of a c.net) ≡ 0
      q_settled c q =
          let f : Flop ℕ = q.1.0 in
          let small : c.net < length (driven a.netlist) = subst (λ n. n < length (driven a.netlist)) q.1.2 (q_within a.netlist f named.netlist (contains_at a.netlist.flops q.0 f q.1.1)) in
          same_rank c.net small ∙ ap (λ (ds : List (Gate ℕ)). if is_empty ds then 0 else suc (ranks.0 c.net)) (flop_undriven a.netlist q.0 c.net f named.netlist small q.1.1 q.1.2)

-- where the original has an order, so has a netlist whose drivers are the written one's
pub ranks_of_written : (a b : Named) (p : PlanValue) → IsNamed a → HasOwnNames a → AllByRecursion (RowNumbered (length (driven a.netlist))) (written_netlist a.netlist p).gates → HasRanks a.netlist.gates → Holds a.netlist p Kinds → HasNoLoop a.netlist p → Mirrors (written a p) b → HasRanks (sited b).netlist.gates
ranks_of_written a b p named own numbered ranks kinds no_loop m =
    let at_site = site_rank a named ranks in
    let rank = wire_rank a.netlist p (λ net. at_site (site_of a net)) in
    let falls = no_loop (λ net. at_site (site_of a net)) (own_falls a named ranks) (own_settled a named ranks p kinds) in
    let kept : Site → ℕ = λ s. 12 * at_site s in
    let gates = (written_netlist a.netlist p).gates in
    let all = site_falls (length (driven a.netlist)) a own rank kept gates (λ net. refl) numbered falls in
    (rank_in a rank kept (wires gates), to_all (FallsAlong (rank_in a rank kept (wires gates))) (sited b).netlist.gates (λ g c. of_all (FallsAlong (rank_in a rank kept (wires gates))) (map (renamed_gate (wire_site a)) gates) g all ((m.gates g).0 c)))
