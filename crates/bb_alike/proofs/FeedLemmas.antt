-- What feeds a net of a named netlist, by sites.
use Rattle.std.proofs.Common.{arith, ◌≡◌, ◌↔◌, ◌⊎◌, inl, inr, ℕ, ◌<◌, ◌≤◌, ◌==◌, List, [], ◌∷◌, ◌++◌, length, map, Bool, true, false, refl, sym, ap, subst, ◌∙◌, Contains}
use Rattle.std.proofs.lemmas.Bool.Decides.{nat_tests}
use Rattle.std.proofs.lemmas.List.Elements.{recursion_from_All}
use Rattle.std.specs.List.{AllByRecursion}
use Rattle.bb_base.proofs.Contained.{here, there, of_all, contains_map, contains_at}
use Rattle.bb_base.proofs.Distinct.{Distinct, distinct_map}
use Rattle.bb_base.specs.Net.{Gate, Flop, Netlist, renamed_gate, renamed_flop, driven, times}
use Rattle.bb_base.specs.Drivers.{Drives}
use Rattle.bb_base.specs.declared.netlist.Driver.{Driver}
use Rattle.bb_base.specs.declared.netlist.Driver.TheVariants.{Input as InputAt, Gate as GateAt, Flop as FlopAt}
use Rattle.bb_base.proofs.GateLemmas.{driven_distinct}
use Rattle.bb_base.proofs.Renamed.{driven_renamed}
use Rattle.bb_base.proofs.TimesLemmas.{times_head}
use Rattle.bb_base.specs.Named.{Named, IsNamed}
use Rattle.bb_net.specs.Sites.{Site, site_of, sited}
use Rattle.bb_net.proofs.SiteLemmas.{net_by_site}
use Rattle.bb_alike.specs.Alike.{Feeding, Outside, Through, Held, Feeds, IsFedAlike}
use Rattle.bb_alike.proofs.ListLemmas.{to_front, to_back, from_joined, from_image, apart_joined, distinct_front, distinct_back, one_image}

-- where nothing is driven twice, a site has one driver
module _ (n : Netlist Site) (apart : Distinct (driven n)) where
  abbrev outs : List Site
  outs = map (λ (g : Gate Site). g.out) n.gates

  abbrev qs : List Site
  qs = map (λ (f : Flop Site). f.q) n.flops

  out_in : (site : Site) (g : Gate Site) → Feeds n site (Through g) → Contains outs site
  out_in site g h = subst (Contains outs) h.1 (contains_map (λ (x : Gate Site). x.out) n.gates g h.0)

  q_in : (site : Site) (f : Flop Site) → Feeds n site (Held f) → Contains qs site
  q_in site f h = subst (Contains qs) h.1 (contains_map (λ (x : Flop Site). x.q) n.flops f h.0)

  input_no_gate : (site : Site) (g : Gate Site) → Contains n.inputs site → Feeds n site (Through g) → ⊥
  input_no_gate site g i h = apart_joined n.inputs (outs ++ qs) site apart i (to_front outs qs site (out_in site g h))

  input_no_flop : (site : Site) (f : Flop Site) → Contains n.inputs site → Feeds n site (Held f) → ⊥
  input_no_flop site f i h = apart_joined n.inputs (outs ++ qs) site apart i (to_back outs qs site (q_in site f h))

  gate_no_flop : (site : Site) (g : Gate Site) (f : Flop Site) → Feeds n site (Through g) → Feeds n site (Held f) → ⊥
  gate_no_flop site g f h k = apart_joined outs qs site (distinct_back n.inputs (outs ++ qs) apart) (out_in site g h) (q_in site f k)

  pub one_feeding : (site : Site) (d e : Feeding) → Feeds n site d → Feeds n site e → d ≡ e
  one_feeding site Outside Outside h k = refl
  one_feeding site Outside (Through g) h k = absurd (input_no_gate site g h k)
  one_feeding site Outside (Held f) h k = absurd (input_no_flop site f h k)
  one_feeding site (Through g) Outside h k = absurd (input_no_gate site g k h)
  one_feeding site (Through g) (Through e) h k =
      ap Through (one_image (λ (x : Gate Site). x.out) n.gates g e (distinct_front outs qs (distinct_back n.inputs (outs ++ qs) apart)) h.0 k.0 (h.1 ∙ sym k.1))
  one_feeding site (Through g) (Held f) h k = absurd (gate_no_flop site g f h k)
  one_feeding site (Held f) Outside h k = absurd (input_no_flop site f k h)
  one_feeding site (Held f) (Through g) h k = absurd (gate_no_flop site g f k h)
  one_feeding site (Held f) (Held e) h k =
      ap Held (one_image (λ (x : Flop Site). x.q) n.flops f e (distinct_back outs qs (distinct_back n.inputs (outs ++ qs) apart)) h.0 k.0 (h.1 ∙ sym k.1))

-- what is counted in a list stands there
stands : (net : ℕ) (nets : List ℕ) → 1 ≤ times net nets → Contains nets net
stands net [] h = absurd (omega (arith, h))
stands net (m ∷ nets) h = by (m == net) refl (λ k. stands net nets k)
  where
    by : (b : Bool) → (m == net) ≡ b → (1 ≤ times net nets → Contains nets net) → Contains (m ∷ nets) net
    by true e rest =
        let same : m ≡ net = grind (arith, nat_tests, e) in
        subst (Contains (m ∷ nets)) same (here m nets)
    by false e rest =
        let one = times_head net m nets in
        let more : 1 ≤ times net nets = grind (arith, nat_tests, e, one, h) in
        there m nets net (rest more)

module _ (k : Named) (h : IsNamed k) where
  nets_below : AllByRecursion (λ m. m < length k.names) (driven k.netlist)
  nets_below = recursion_from_All (λ m. m < length k.names) (driven k.netlist) h.consistent.drives_nets

  pub drivers_apart : Distinct (driven (sited k).netlist)
  drivers_apart =
      subst Distinct (sym (driven_renamed (site_of k) k.netlist))
      (distinct_map (site_of k) (λ m. m < length k.names) (net_by_site k h) (driven k.netlist) nets_below (driven_distinct k.netlist h.netlist))

  pub input_feeds : (m : ℕ) → Contains k.netlist.inputs m → Feeds (sited k).netlist (site_of k m) Outside
  input_feeds m c = contains_map (site_of k) k.netlist.inputs m c

  pub gate_feeds : (m : ℕ) (g : Gate ℕ) → Contains k.netlist.gates g → g.out ≡ m → Feeds (sited k).netlist (site_of k m) (Through (renamed_gate (site_of k) g))
  gate_feeds m g c out = (contains_map (renamed_gate (site_of k)) k.netlist.gates g c, ap (site_of k) out)

  pub flop_feeds : (m : ℕ) (f : Flop ℕ) → Contains k.netlist.flops f → f.q ≡ m → Feeds (sited k).netlist (site_of k m) (Held (renamed_flop (site_of k) f))
  flop_feeds m f c q = (contains_map (renamed_flop (site_of k)) k.netlist.flops f c, ap (site_of k) q)

  -- each net has a driver
  pub some_feeding : (m : ℕ) → m < length k.names → (e : Feeding) × Feeds (sited k).netlist (site_of k m) e
  some_feeding m less = by (from_joined k.netlist.inputs (gate_nets ++ flop_nets) m (stands m (driven k.netlist) once))
    where
      gate_nets : List ℕ
      gate_nets = map (λ (g : Gate ℕ). g.out) k.netlist.gates

      flop_nets : List ℕ
      flop_nets = map (λ (f : Flop ℕ). f.q) k.netlist.flops

      once : 1 ≤ times m (driven k.netlist)
      once = omega (arith, h.netlist.one_driver m (omega (arith, less, h.names)))

      inner : Contains gate_nets m ⊎ Contains flop_nets m → (e : Feeding) × Feeds (sited k).netlist (site_of k m) e
      inner (inl c) = let g = from_image (λ (x : Gate ℕ). x.out) k.netlist.gates m c in (Through (renamed_gate (site_of k) g.0), gate_feeds m g.0 g.1 g.2)
      inner (inr c) = let f = from_image (λ (x : Flop ℕ). x.q) k.netlist.flops m c in (Held (renamed_flop (site_of k) f.0), flop_feeds m f.0 f.1 f.2)

      by : Contains k.netlist.inputs m ⊎ Contains (gate_nets ++ flop_nets) m → (e : Feeding) × Feeds (sited k).netlist (site_of k m) e
      by (inl c) = (Outside, input_feeds m c)
      by (inr c) = inner (from_joined gate_nets flop_nets m c)

  -- and a site with a driver is one of a net
  pub fed_site : (site : Site) (e : Feeding) → Feeds (sited k).netlist site e → (m : ℕ) × (m < length k.names) × (site_of k m ≡ site)
  fed_site site Outside c =
      let i = from_image (site_of k) k.netlist.inputs site c in
      (i.0, of_all (λ m. m < length k.names) (driven k.netlist) i.0 nets_below (to_front k.netlist.inputs _ i.0 i.1), i.2)
  fed_site site (Through gate) c =
      let g = from_image (renamed_gate (site_of k)) k.netlist.gates gate c.0 in
      let there : Contains (map (λ (x : Gate ℕ). x.out) k.netlist.gates) g.0.out = contains_map (λ (x : Gate ℕ). x.out) k.netlist.gates g.0 g.1 in (
        g.0.out,
        of_all (λ m. m < length k.names) (driven k.netlist) g.0.out nets_below (to_back k.netlist.inputs _ g.0.out (to_front (map (λ (x : Gate ℕ). x.out) k.netlist.gates) _ g.0.out there)),
        ap (λ (x : Gate Site). x.out) g.2 ∙ c.1,
      )
  fed_site site (Held flop) c =
      let f = from_image (renamed_flop (site_of k)) k.netlist.flops flop c.0 in
      let there : Contains (map (λ (x : Flop ℕ). x.q) k.netlist.flops) f.0.q = contains_map (λ (x : Flop ℕ). x.q) k.netlist.flops f.0 f.1 in (
        f.0.q,
        of_all (λ m. m < length k.names) (driven k.netlist) f.0.q nets_below (to_back k.netlist.inputs _ f.0.q (to_back (map (λ (x : Gate ℕ). x.out) k.netlist.gates) _ f.0.q there)),
        ap (λ (x : Flop Site). x.q) f.2 ∙ c.1,
      )

  -- a net with another driver is no input, and has no gate or flip-flop
  pub no_input : (m : ℕ) (d : Driver) → Drives k.netlist d m → ((i : ℕ) → d ≡ InputAt i → ⊥) → Feeds (sited k).netlist (site_of k m) Outside → ⊥
  no_input m (InputAt i) drives other f = other i refl
  no_input m (GateAt i) drives other f =
      let e = one_feeding (sited k).netlist drivers_apart (site_of k m) Outside (Through (renamed_gate (site_of k) drives.0)) f (gate_feeds m drives.0 (contains_at k.netlist.gates i drives.0 drives.1) drives.2) in
      cc e
  no_input m (FlopAt i) drives other f =
      let e = one_feeding (sited k).netlist drivers_apart (site_of k m) Outside (Held (renamed_flop (site_of k) drives.0)) f (flop_feeds m drives.0 (contains_at k.netlist.flops i drives.0 drives.1) drives.2) in
      cc e

  pub no_gate : (m : ℕ) (d : Driver) (gate : Gate Site) → Drives k.netlist d m → ((i : ℕ) → d ≡ GateAt i → ⊥) → Feeds (sited k).netlist (site_of k m) (Through gate) → ⊥
  no_gate m (InputAt i) gate drives other f =
      let e = one_feeding (sited k).netlist drivers_apart (site_of k m) (Through gate) Outside f (input_feeds m (contains_at k.netlist.inputs i m drives)) in
      cc e
  no_gate m (GateAt i) gate drives other f = other i refl
  no_gate m (FlopAt i) gate drives other f =
      let e = one_feeding (sited k).netlist drivers_apart (site_of k m) (Through gate) (Held (renamed_flop (site_of k) drives.0)) f (flop_feeds m drives.0 (contains_at k.netlist.flops i drives.0 drives.1) drives.2) in
      cc e

  pub no_flop : (m : ℕ) (d : Driver) (flop : Flop Site) → Drives k.netlist d m → ((i : ℕ) → d ≡ FlopAt i → ⊥) → Feeds (sited k).netlist (site_of k m) (Held flop) → ⊥
  no_flop m (InputAt i) flop drives other f =
      let e = one_feeding (sited k).netlist drivers_apart (site_of k m) (Held flop) Outside f (input_feeds m (contains_at k.netlist.inputs i m drives)) in
      cc e
  no_flop m (GateAt i) flop drives other f =
      let e = one_feeding (sited k).netlist drivers_apart (site_of k m) (Held flop) (Through (renamed_gate (site_of k) drives.0)) f (gate_feeds m drives.0 (contains_at k.netlist.gates i drives.0 drives.1) drives.2) in
      cc e
  no_flop m (FlopAt i) flop drives other f = other i refl

-- netlists feed a site alike exactly where one has the other's driver there
pub alike_by : (w b : Named) (site : Site) (d : Feeding) → IsNamed w → IsNamed b → Feeds (sited w).netlist site d → IsFedAlike w b site ↔ Feeds (sited b).netlist site d
alike_by w b site d hw hb fw = (
  λ all. (all d).1 fw,
  λ fb e. (
    λ k. subst (Feeds (sited w).netlist site) (one_feeding (sited b).netlist (drivers_apart b hb) site d e fb k) fw,
    λ k. subst (Feeds (sited b).netlist site) (one_feeding (sited w).netlist (drivers_apart w hw) site d e fw k) fb,
  ),
)
