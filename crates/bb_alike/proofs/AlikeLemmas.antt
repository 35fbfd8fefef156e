-- When a net of one netlist has the driver of the net at its site in another.
use Rattle.std.proofs.Common.{arith, ◌≡◌, ◌↔◌, ℕ, ◌<◌, Bool, IsTrue, List, length, map, All, Option, None, Some, slice_get, get_or, refl, sym, ap, subst, ◌∙◌, Contains}
use Rattle.std.proofs.lemmas.List.Elements.{recursion_from_All, All-from_recursion}
use Rattle.std.proofs.lemmas.Option.{slice_get_within, slice_get-get_or}
use Rattle.std.specs.List.{AllByRecursion, flat_map}
use Rattle.bb_base.specs.Places.{IsFirstWrong}
use Rattle.bb_base.proofs.Contained.{of_all, contains_at}
use Rattle.bb_base.proofs.Lists.{all_front, all_back, all_parts, all_map, get_some}
use Rattle.bb_base.specs.Net.{Gate, Flop, Netlist, renamed_gate, renamed_flop, reads}
use Rattle.bb_base.specs.Drivers.{Drives}
use Rattle.bb_base.specs.declared.netlist.Driver.TheVariants.{Gate as GateAt, Flop as FlopAt}
use Rattle.bb_base.specs.Named.{Named, IsNamed}
use Rattle.bb_net.specs.Sites.{Site, site_of, sited}
use Rattle.bb_alike.specs.Alike.{Feeding, Through, Held, Feeds, IsFedAlike, IsOneMore}
use Rattle.bb_alike.specs.Found.{AreNetsAt}
use Rattle.bb_alike.proofs.NetLemmas.{entry, entry_site, entry_none, site_entry, entries_sites, sites_entries}
use Rattle.bb_alike.proofs.FeedLemmas.{one_feeding, drivers_apart, gate_feeds, flop_feeds, some_feeding, fed_site, alike_by}

-- what gates and flip-flops read are nets
module _ (k : Named) (h : IsNamed k) where
  reads_below : AllByRecursion (λ m. m < length k.names) (reads k.netlist)
  reads_below = recursion_from_All (λ m. m < length k.names) (reads k.netlist) h.consistent.reads_nets

  ins_all : AllByRecursion (λ (g : Gate ℕ). AllByRecursion (λ m. m < length k.names) g.ins) k.netlist.gates
  ins_all =
      all_parts (λ m. m < length k.names) (λ (g : Gate ℕ). g.ins) k.netlist.gates
      (all_front (λ m. m < length k.names) (flat_map (λ (g : Gate ℕ). g.ins) k.netlist.gates) (map (λ (f : Flop ℕ). f.d) k.netlist.flops) (all_back (λ m. m < length k.names) k.netlist.outputs _ reads_below))

  ds_all : AllByRecursion (λ (f : Flop ℕ). f.d < length k.names) k.netlist.flops
  ds_all =
      all_map (λ m. m < length k.names) (λ (f : Flop ℕ). f.d < length k.names) (λ (f : Flop ℕ). f.d) (λ f less. less) k.netlist.flops
      (all_back (λ m. m < length k.names) (flat_map (λ (g : Gate ℕ). g.ins) k.netlist.gates) (map (λ (f : Flop ℕ). f.d) k.netlist.flops) (all_back (λ m. m < length k.names) k.netlist.outputs _ reads_below))

  pub ins_within : (g : Gate ℕ) → Contains k.netlist.gates g → AllByRecursion (λ m. m < length k.names) g.ins
  ins_within g c = of_all (λ (g : Gate ℕ). AllByRecursion (λ m. m < length k.names) g.ins) k.netlist.gates g ins_all c

  pub d_within : (f : Flop ℕ) → Contains k.netlist.flops f → f.d < length k.names
  d_within f c = of_all (λ (f : Flop ℕ). f.d < length k.names) k.netlist.flops f ds_all c

module _ (w b : Named) (nets : List (Option ℕ)) (hw : IsNamed w) (hb : IsNamed b) (table : AreNetsAt w b nets) where
  pub d_read : (f : Flop ℕ) → Contains w.netlist.flops f → f.d < length nets
  d_read f c = let less = d_within w hw f c in omega (arith, less, table.long)

  pub ins_read : (g : Gate ℕ) → Contains w.netlist.gates g → All (λ m. m < length nets) g.ins
  ins_read g c = subst (λ n. All (λ m. m < n) g.ins) (sym table.long) (All-from_recursion (λ m. m < length w.names) g.ins (ins_within w hw g c))

  -- the net's flip-flop is like this one where its d is at the same site
  pub flop_alike : (flop other : Flop ℕ) (net : ℕ) → Contains w.netlist.flops flop → site_of b net ≡ site_of w flop.q → Contains b.netlist.flops other → other.q ≡ net
      → (entry nets flop.d ≡ Some other.d) ↔ Feeds (sited b).netlist (site_of b net) (Held (renamed_flop (site_of w) flop))
  flop_alike flop other net cw same cb q = (to, from)
    where
      at_q : site_of b other.q ≡ site_of w flop.q
      at_q = ap (site_of b) q ∙ same

      fed : Feeds (sited b).netlist (site_of b net) (Held (renamed_flop (site_of b) other))
      fed = flop_feeds b hb net other cb q

      to : entry nets flop.d ≡ Some other.d → Feeds (sited b).netlist (site_of b net) (Held (renamed_flop (site_of w) flop))
      to e =
          let d : site_of b other.d ≡ site_of w flop.d = sym (entry_site w b nets hb table flop.d other.d (d_within w hw flop cw) e) in
          let one : renamed_flop (site_of b) other ≡ renamed_flop (site_of w) flop = λ i. record { q = at_q i; d = d i } in
          subst (λ (f : Flop Site). Feeds (sited b).netlist (site_of b net) (Held f)) one fed

      from : Feeds (sited b).netlist (site_of b net) (Held (renamed_flop (site_of w) flop)) → entry nets flop.d ≡ Some other.d
      from h =
          let both : Held (renamed_flop (site_of w) flop) ≡ Held (renamed_flop (site_of b) other) = one_feeding (sited b).netlist (drivers_apart b hb) (site_of b net) (Held (renamed_flop (site_of w) flop)) (Held (renamed_flop (site_of b) other)) h fed in
          let one : renamed_flop (site_of w) flop ≡ renamed_flop (site_of b) other = cc both in
          site_entry w b nets hb table flop.d other.d (d_within w hw flop cw) (d_within b hb other cb) (ap (λ (f : Flop Site). f.d) one)

  -- and its gate is like this one where the operator is the same and the inputs are, site by site
  pub gate_alike : (gate other : Gate ℕ) (net : ℕ) → Contains w.netlist.gates gate → site_of b net ≡ site_of w gate.out → Contains b.netlist.gates other → other.out ≡ net
      → ((gate.op ≡ other.op) × (map (entry nets) gate.ins ≡ map Some other.ins)) ↔ Feeds (sited b).netlist (site_of b net) (Through (renamed_gate (site_of w) gate))
  gate_alike gate other net cw same cb out = (to, from)
    where
      at_out : site_of b other.out ≡ site_of w gate.out
      at_out = ap (site_of b) out ∙ same

      fed : Feeds (sited b).netlist (site_of b net) (Through (renamed_gate (site_of b) other))
      fed = gate_feeds b hb net other cb out

      to : (gate.op ≡ other.op) × (map (entry nets) gate.ins ≡ map Some other.ins) → Feeds (sited b).netlist (site_of b net) (Through (renamed_gate (site_of w) gate))
      to e =
          let op : other.op ≡ gate.op = sym e.0 in
          let ins : map (site_of b) other.ins ≡ map (site_of w) gate.ins = sym (entries_sites w b nets hb table gate.ins other.ins (ins_within w hw gate cw) e.1) in
          let one : renamed_gate (site_of b) other ≡ renamed_gate (site_of w) gate = λ i. record { op = op i; out = at_out i; ins = ins i } in
          subst (λ (g : Gate Site). Feeds (sited b).netlist (site_of b net) (Through g)) one fed

      from : Feeds (sited b).netlist (site_of b net) (Through (renamed_gate (site_of w) gate)) → (gate.op ≡ other.op) × (map (entry nets) gate.ins ≡ map Some other.ins)
      from h =
          let both : Through (renamed_gate (site_of w) gate) ≡ Through (renamed_gate (site_of b) other) = one_feeding (sited b).netlist (drivers_apart b hb) (site_of b net) (Through (renamed_gate (site_of w) gate)) (Through (renamed_gate (site_of b) other)) h fed in
          let one : renamed_gate (site_of w) gate ≡ renamed_gate (site_of b) other = cc both in
          (ap (λ (g : Gate Site). g.op) one, sites_entries w b nets hb table gate.ins other.ins (ins_within w hw gate cw) (ins_within b hb other cb) (ap (λ (g : Gate Site). g.ins) one))

  -- without a net at its site it has no driver there
  pub none_alike : (net : ℕ) → net < length w.names → entry nets net ≡ None → IsFedAlike w b (site_of w net) → ⊥
  none_alike net less none all =
      let fed = some_feeding w hw net less in
      let there = fed_site b hb (site_of w net) fed.0 ((all fed.0).1 fed.1) in
      entry_none w b nets hb table net there.0 less none there.1 there.2

-- a test of the driver of one is a test of both
pub alike_at : (w b : Named) (net other : ℕ) (d : Feeding) (r : Bool) → IsNamed w → IsNamed b → Feeds (sited w).netlist (site_of w net) d → site_of b other ≡ site_of w net
    → IsTrue r ↔ Feeds (sited b).netlist (site_of b other) d → IsTrue r ↔ IsFedAlike w b (site_of w net)
alike_at w b net other d r hw hb fed same h =
    let both = alike_by w b (site_of w net) d hw hb fed in (
      λ t. both.1 (subst (λ s. Feeds (sited b).netlist s d) same (h.0 t)),
      λ all. h.1 (subst (λ s. Feeds (sited b).netlist s d) (sym same) (both.0 all)),
    )

-- the gate or flip-flop that an index gives is the one that drives the net
pub gate_read : (n : Netlist ℕ) (xs : List (Gate ℕ)) (h net : ℕ) (g : Gate ℕ) → Drives n (GateAt h) net → xs ≡ n.gates → g ≡ get_or xs h g → Contains n.gates g × (g.out ≡ net)
gate_read n xs h net g d same is =
    let less = slice_get_within n.gates h d.0 d.1 in
    let at : slice_get n.gates h ≡ Some g = slice_get-get_or n.gates h g less ∙ ap Some (sym (is ∙ ap (λ ys. get_or ys h g) same)) in
    let both : Some d.0 ≡ Some g = sym d.1 ∙ at in
    let one : d.0 ≡ g = cc both in
    (contains_at n.gates h g at, sym (ap (λ (f : Gate ℕ). f.out) one) ∙ d.2)

pub flop_read : (n : Netlist ℕ) (xs : List (Flop ℕ)) (h net : ℕ) (f : Flop ℕ) → Drives n (FlopAt h) net → xs ≡ n.flops → f ≡ get_or xs h f → Contains n.flops f × (f.q ≡ net)
flop_read n xs h net f d same is =
    let less = slice_get_within n.flops h d.0 d.1 in
    let at : slice_get n.flops h ≡ Some f = slice_get-get_or n.flops h f less ∙ ap Some (sym (is ∙ ap (λ ys. get_or ys h f) same)) in
    let both : Some d.0 ≡ Some f = sym d.1 ∙ at in
    let one : d.0 ≡ f = cc both in
    (contains_at n.flops h f at, sym (ap (λ (k : Flop ℕ). k.q) one) ∙ d.2)

-- the first net that isn't driven alike
pub unlike_here : (w b : Named) (n : ℕ) → n < length w.names → ((m : ℕ) → m < n → IsFedAlike w b (site_of w m)) → (IsFedAlike w b (site_of w n) → ⊥) → IsFirstWrong w.names (λ m name. IsFedAlike w b (site_of w m)) n
unlike_here w b n less before wrong =
    let item = get_some w.names n less in
    record { item = item.0; stands = item.1; wrong = wrong; before = λ m name low at. before m low }

-- nets of b at sites of nets of w, by a table of them
pub one_more : (w b : Named) (back : List (Option ℕ)) (net : ℕ) → AreNetsAt b w back → slice_get back net ≡ Some None → IsOneMore w b net
one_more w b back net table at =
    let less = slice_get_within back net None at in
    (omega (arith, less, table.long), λ other low same. (table.each net None at).none refl other low same)

pub none_more : (w b : Named) (back : List (Option ℕ)) → AreNetsAt b w back → ((net : ℕ) → slice_get back net ≡ Some None → ⊥) → (net : ℕ) → net < length b.names
    → (other : ℕ) × (other < length w.names) × (site_of w other ≡ site_of b net)
none_more w b back table never net low = let item = get_some back net (omega (arith, low, table.long)) in by item.0 item.1
  where
    by : (found : Option ℕ) → slice_get back net ≡ Some found → (other : ℕ) × (other < length w.names) × (site_of w other ≡ site_of b net)
    by None at = absurd (never net at)
    by (Some m) at = let there = (table.each net (Some m) at).some m refl in (m, there.0, there.1)
