-- Each bit that is laid has the site of a net that the written netlist drives.
use Rattle.std.proofs.Common.{arith, ◌≡◌, ℕ, ◌+◌, ◌<◌, suc, List, [], ◌∷◌, ◌++◌, length, map, filter, take, drop, cond, Bool, true, false, if◌then◌else◌, Option, Some, slice_get, refl, sym, ap, subst, ◌∙◌, take-append-drop, length-append, Contains}
use Rattle.std.proofs.lemmas.Option.{slice_get_within, get_or_from_slice_get}
use Rattle.std.specs.List.{AllByRecursion, list_any, range_with_len}
use Rattle.bb_base.specs.declared.variable.Role.{Role}
use Rattle.bb_base.specs.declared.variable.Role.TheVariants.{Input, Output, Wire as WireRole}
use Rattle.bb_base.specs.declared.variable.BitName.{BitName}
use Rattle.bb_base.specs.Variables.{Entry, bit_at, bit_eq, is_input, is_output, is_port, range_width, places_but, clock_place, data_bits, role_bits, ports_of}
use Rattle.bb_base.proofs.Contained.{there, to_all, place_of}
use Rattle.bb_base.proofs.Lists.{all_join, all_front, all_back, all_map_back, get_front, get_back}
use Rattle.bb_base.specs.Net.{Gate, Flop, driven}
use Rattle.bb_base.specs.Named.{Named, IsNamed, name_of_net}
use Rattle.bb_net.specs.Sites.{site_in, site_of_bit}
use Rattle.bb_net.proofs.Renaming.{OfAllNets, nets_below}
use Rattle.bb_terms.specs.Plan.{PlanValue}
use Rattle.bb_terms.specs.Valid.{IsValidPlan}
use Rattle.bb_terms.specs.declared.wire.Wire.{Wire}
use Rattle.bb_terms.specs.declared.wire.Wire.TheVariants.{Kept, Test, Init, So, Done}
use Rattle.bb_terms.specs.Wires.{symbol_name, IsAdded}
use Rattle.bb_written.specs.Cells.{flops}
use Rattle.bb_written.specs.Written.{scalar_site, wire_site, written_gate, test_gates, written_netlist, is_inner, inner_wires, inner_entry, added_clock, added_ports, written_variables}
use Rattle.bb_normal.proofs.Numbered.{IsNumbered}
use Rattle.bb_normal.proofs.Ranks.{Side, IsKept, IsNew, side}
use Rattle.bb_normal.proofs.Standing.{all_of}
use Rattle.bb_written.proofs.Rising.{out_of, q_in}
use Rattle.bb_written.proofs.Reached.{HoldsOfDriven, so, done}
use Rattle.bb_written.proofs.Driven.{holds}
use Rattle.bb_written.proofs.Inner.{inner_added}
use Rattle.bb_lay.specs.Laying.{net_bits, all_net_bits, scalar_bits, wires_from, laid_bits}
use Rattle.bb_lay.proofs.Bits.{any_stands}
use Rattle.bb_lay.proofs.Clocks.{front_long}
use Rattle.bb_weave.proofs.PortSites.{front_get}

-- bits of variables ------------------------------------------------------------------

-- a fact of bits of inputs and of outputs is one of bits of ports
ports_all : (P : BitName → Type 0) (clock : Option BitName) (k : ℕ) (vs : List Entry) → AllByRecursion P (role_bits is_input clock k vs) → AllByRecursion P (role_bits is_output clock k vs) → AllByRecursion P (role_bits is_port clock k vs)
ports_all P clock k [] h l = tt
ports_all P clock k (v ∷ vs) h l = by v.1.role h l (λ m n. ports_all P clock (k + 1) vs m n)
  where
    by : (r : Role) → AllByRecursion P ((if is_input r then data_bits clock k v.1 else []) ++ role_bits is_input clock (k + 1) vs) → AllByRecursion P ((if is_output r then data_bits clock k v.1 else []) ++ role_bits is_output clock (k + 1) vs)
        → (AllByRecursion P (role_bits is_input clock (k + 1) vs) → AllByRecursion P (role_bits is_output clock (k + 1) vs) → AllByRecursion P (role_bits is_port clock (k + 1) vs))
        → AllByRecursion P ((if is_port r then data_bits clock k v.1 else []) ++ role_bits is_port clock (k + 1) vs)
    by Input m n rest =
        all_join P (data_bits clock k v.1) (role_bits is_port clock (k + 1) vs) (all_front P (data_bits clock k v.1) (role_bits is_input clock (k + 1) vs) m) (rest (all_back P (data_bits clock k v.1) (role_bits is_input clock (k + 1) vs) m) n)
    by Output m n rest =
        all_join P (data_bits clock k v.1) (role_bits is_port clock (k + 1) vs) (all_front P (data_bits clock k v.1) (role_bits is_output clock (k + 1) vs) n) (rest m (all_back P (data_bits clock k v.1) (role_bits is_output clock (k + 1) vs) n))
    by WireRole m n rest = rest m n

-- and one of bits of the first variables
ports_before : (P : BitName → Type 0) (clock : Option BitName) (k : ℕ) (vs more : List Entry) → AllByRecursion P (role_bits is_port clock k (vs ++ more)) → AllByRecursion P (role_bits is_port clock k vs)
ports_before P clock k [] more h = tt
ports_before P clock k (v ∷ vs) more h =
    let own : List BitName = if is_port v.1.role then data_bits clock k v.1 else [] in
    all_join P own (role_bits is_port clock (k + 1) vs) (all_front P own (role_bits is_port clock (k + 1) (vs ++ more)) h) (ports_before P clock (k + 1) vs more (all_back P own (role_bits is_port clock (k + 1) (vs ++ more)) h))

places_same : (vs us : List Entry) (k : ℕ) (places : List ℕ) → slice_get vs k ≡ slice_get us k → AllByRecursion (λ bit. site_of_bit vs bit ≡ site_of_bit us bit) (map (bit_at k) places)
places_same vs us k [] h = tt
places_same vs us k (q ∷ places) h = (ap (λ o. site_in o q) h, places_same vs us k places h)

-- bits of variables that two lists share have one site
sites_same : (vs us : List Entry) (clock : Option BitName) (k : ℕ) (es : List Entry) → ((i : ℕ) → i < length es → slice_get vs (k + i) ≡ slice_get us (k + i)) → AllByRecursion (λ bit. site_of_bit vs bit ≡ site_of_bit us bit) (role_bits is_port clock k es)
sites_same vs us clock k [] h = tt
sites_same vs us clock k (e ∷ es) h =
    all_join (λ bit. site_of_bit vs bit ≡ site_of_bit us bit) (if is_port e.1.role then data_bits clock k e.1 else []) (role_bits is_port clock (k + 1) es) (by (is_port e.1.role))
    (sites_same vs us clock (k + 1) es (λ i less. let s : k + 1 + i ≡ k + suc i = omega arith in ap (slice_get vs) s ∙ h (suc i) (omega (arith, less)) ∙ sym (ap (slice_get us) s)))
  where
    at : slice_get vs k ≡ slice_get us k
    at = let s : k ≡ k + 0 = omega arith in ap (slice_get vs) s ∙ h 0 (omega arith) ∙ sym (ap (slice_get us) s)

    by : (b : Bool) → AllByRecursion (λ bit. site_of_bit vs bit ≡ site_of_bit us bit) (if b then data_bits clock k e.1 else [])
    by true = places_same vs us k (places_but (clock_place clock k) (range_width e.1.range)) at
    by false = tt

-- drivers --------------------------------------------------------------------------------

module _ (a : Named) (p : PlanValue) (named : IsNamed a) (valid : IsValidPlan a.netlist p) where
  abbrev drivers : List Wire
  drivers = driven (written_netlist a.netlist p)

  abbrev inner : List Wire
  inner = inner_wires a.netlist p

  -- the bit has the site of a symbol that is driven
  abbrev pub HasSymbol : List Entry → BitName → Type 0
  HasSymbol vs bit = (w : Wire) × Contains (driven (written_netlist a.netlist p)) w × (site_of_bit vs bit ≡ wire_site a w)

  -- what is known of all drivers
  there_all : HoldsOfDriven (Contains drivers) a.netlist p
  there_all = holds a.netlist p named.netlist valid (Contains drivers) (to_all (Contains drivers) drivers (λ w c. c))

  kept_there : (m : ℕ) → m < length a.names → Contains drivers (Kept m)
  kept_there m less = there_all.kept m (omega (arith, less, named.names))

  -- the bit is that of a net of the original
  abbrev IsOwned : BitName → Type 0
  IsOwned bit = (m : ℕ) × (m < length a.names) × (name_of_net a m ≡ bit)

  owned_has : (vs : List Entry) (bit own : BitName) → site_of_bit vs bit ≡ site_of_bit a.variables own → IsOwned own → HasSymbol vs bit
  owned_has vs bit own e o = (Kept o.0, kept_there o.0 o.1, e ∙ sym (ap (site_of_bit a.variables) o.2))

  owned_of : (bit : BitName) → Contains a.names bit → IsOwned bit
  owned_of bit c = let k = place_of a.names bit c in (k.0, slice_get_within a.names k.0 bit k.1, get_or_from_slice_get a.names k.0 bit (bit_at 0 0) k.1)

  abbrev front : List Entry
  front = take (ports_of a.variables) a.variables

  abbrev back : List Entry
  back = drop (ports_of a.variables) a.variables

  abbrev middle : List Entry
  middle = added_clock a.clock

  abbrev all : List Entry
  all = front ++ (middle ++ (added_ports ++ (back ++ map inner_entry inner)))

  -- the original's ports
  named_all : (nets : List ℕ) → AllByRecursion (λ m. m < length (driven a.netlist)) nets → AllByRecursion IsOwned (map (name_of_net a) nets)
  named_all nets h = all_map_back IsOwned (λ m. m < length (driven a.netlist)) (name_of_net a) (λ m less. (m, omega (arith, less, named.names), refl)) nets h

  ports_owned : AllByRecursion IsOwned (role_bits is_port a.clock 0 front)
  ports_owned =
      let below : OfAllNets (λ m. m < length (driven a.netlist)) a.netlist = nets_below a.netlist named.netlist in
      let ins = subst (AllByRecursion IsOwned) named.consistent.inputs (named_all a.netlist.inputs below.inputs) in
      let outs = subst (AllByRecursion IsOwned) named.consistent.outputs (named_all a.netlist.outputs below.outputs) in
      ports_before IsOwned a.clock 0 front back (subst (λ vs. AllByRecursion IsOwned (role_bits is_port a.clock 0 vs)) (sym (take-append-drop (ports_of a.variables) a.variables)) (ports_all IsOwned a.clock 0 a.variables ins outs))

  ports_same : AllByRecursion (λ bit. site_of_bit all bit ≡ site_of_bit a.variables bit) (role_bits is_port a.clock 0 front)
  ports_same =
      sites_same all a.variables a.clock 0 front
      (λ i less. let s : 0 + i ≡ i = omega arith in ap (slice_get all) s ∙ front_get a named.consistent inner i (omega (arith, less, front_long a.variables)) ∙ sym (ap (slice_get a.variables) s))

  ports_have : AllByRecursion (HasSymbol all) (role_bits is_port a.clock 0 front)
  ports_have = go (role_bits is_port a.clock 0 front) ports_owned ports_same
    where
      go : (bits : List BitName) → AllByRecursion IsOwned bits → AllByRecursion (λ bit. site_of_bit all bit ≡ site_of_bit a.variables bit) bits → AllByRecursion (HasSymbol all) bits
      go [] h k = tt
      go (bit ∷ bits) h k = (owned_has all bit bit k.0 h.0, go bits h.1 k.1)

  -- the ports of the test
  abbrev tests : ℕ
  tests = ports_of a.variables + length middle

  past_middle : (k : ℕ) → slice_get all (tests + k) ≡ slice_get (added_ports ++ (back ++ map inner_entry inner)) k
  past_middle k =
      let s : tests + k ≡ length front + (length middle + k) = omega (arith, front_long a.variables) in
      ap (slice_get all) s ∙ get_back front (middle ++ (added_ports ++ (back ++ map inner_entry inner))) (length middle + k) ∙ get_back middle (added_ports ++ (back ++ map inner_entry inner)) k

  test_has : (k : ℕ) (w : Wire) (e : Entry) (place : ℕ) → place ≡ tests + k → Contains drivers w → slice_get (added_ports ++ (back ++ map inner_entry inner)) k ≡ Some e → site_in (Some e) 0 ≡ wire_site a w → HasSymbol all (bit_at place 0)
  test_has k w e place s c at same = (w, c, ap (λ o. site_in o 0) (ap (slice_get all) s ∙ past_middle k ∙ at) ∙ same)

  tests_have : AllByRecursion (HasSymbol all) (scalar_bits tests 4)
  tests_have = (
    test_has 0 Test _ tests (omega arith) there_all.test refl refl,
    (test_has 1 Init _ (tests + 1) (omega arith) there_all.init refl refl, (test_has 2 So _ (tests + 1 + 1) (omega arith) (so (Contains drivers) a.netlist p there_all) refl refl, (test_has 3 Done _ (tests + 1 + 1 + 1) (omega arith) (done (Contains drivers) a.netlist p there_all) refl refl, tt))),
  )

  -- the original's wires
  wires_have : (from number : ℕ) (vs : List Entry) → ((i : ℕ) → i < length vs → slice_get all (number + i) ≡ slice_get a.variables (from + i)) → AllByRecursion (HasSymbol all) (all_net_bits a.names from number vs)
  wires_have from number [] h = tt
  wires_have from number (v ∷ vs) h =
      all_join (HasSymbol all) (net_bits a.names from number (range_width v.1.range)) (all_net_bits a.names (from + 1) (number + 1) vs) (own (range_with_len 0 (range_width v.1.range)))
      (wires_have (from + 1) (number + 1) vs
      (λ i less. let s : number + 1 + i ≡ number + suc i = omega arith in let t : from + 1 + i ≡ from + suc i = omega arith in ap (slice_get all) s ∙ h (suc i) (omega (arith, less)) ∙ sym (ap (slice_get a.variables) t)))
    where
      at : slice_get all number ≡ slice_get a.variables from
      at = let s : number ≡ number + 0 = omega arith in let t : from ≡ from + 0 = omega arith in ap (slice_get all) s ∙ h 0 (omega arith) ∙ sym (ap (slice_get a.variables) t)

      own : (places : List ℕ) → AllByRecursion (HasSymbol all) (map (bit_at number) (filter (λ q. list_any (bit_eq (bit_at from q)) a.names) places))
      own [] = tt
      own (q ∷ places) = by (list_any (bit_eq (bit_at from q)) a.names) refl (own places)
        where
          by : (b : Bool) → list_any (bit_eq (bit_at from q)) a.names ≡ b → AllByRecursion (HasSymbol all) (map (bit_at number) (filter (λ k. list_any (bit_eq (bit_at from k)) a.names) places))
              → AllByRecursion (HasSymbol all) (map (bit_at number) (cond b (q ∷ filter (λ k. list_any (bit_eq (bit_at from k)) a.names) places) (filter (λ k. list_any (bit_eq (bit_at from k)) a.names) places)))
          by true e rest = (owned_has all (bit_at number q) (bit_at from q) (ap (λ o. site_in o q) at) (owned_of (bit_at from q) (any_stands (bit_at from q) a.names e)), rest)
          by false e rest = rest

  past_ports : (k : ℕ) → slice_get all (wires_from a + k) ≡ slice_get (back ++ map inner_entry inner) k
  past_ports k =
      let s : wires_from a + k ≡ tests + (length added_ports + k) = omega (arith, length-append middle added_ports) in
      ap (slice_get all) s ∙ past_middle (length added_ports + k) ∙ get_back added_ports (back ++ map inner_entry inner) k

  own_wires_have : AllByRecursion (HasSymbol all) (all_net_bits a.names (ports_of a.variables) (wires_from a) back)
  own_wires_have = wires_have (ports_of a.variables) (wires_from a) back at
    where
      at : (i : ℕ) → i < length back → slice_get all (wires_from a + i) ≡ slice_get a.variables (ports_of a.variables + i)
      at i less =
          let s : ports_of a.variables + i ≡ length front + i = omega (arith, front_long a.variables) in
          past_ports i ∙ get_front back (map inner_entry inner) i less ∙ sym (get_back front back i) ∙ ap (slice_get (front ++ back)) (sym s) ∙ ap (λ vs. slice_get vs (ports_of a.variables + i)) (take-append-drop (ports_of a.variables) a.variables)

  -- the added wires
  abbrev outs : List Wire
  outs = map out_of (test_gates a.netlist p)

  abbrev qs : List Wire
  qs = map q_in (flops p)

  filter_in : (P : Wire → Type 0) (ws : List Wire) → AllByRecursion P ws → AllByRecursion P (filter is_inner ws)
  filter_in P [] h = tt
  filter_in P (w ∷ ws) h = by (is_inner w) (filter_in P ws h.1)
    where
      by : (b : Bool) → AllByRecursion P (filter is_inner ws) → AllByRecursion P (cond b (w ∷ filter is_inner ws) (filter is_inner ws))
      by true k = (h.0, k)
      by false k = k

  -- all of them are driven
  drivers_there : AllByRecursion (Contains drivers) drivers
  drivers_there = to_all (Contains drivers) drivers (λ w c. c)

  qs_there : AllByRecursion (Contains drivers) qs
  qs_there = all_back (Contains drivers) (map (λ g. g.out) (written_netlist a.netlist p).gates) qs (all_back (Contains drivers) (written_netlist a.netlist p).inputs (map (λ g. g.out) (written_netlist a.netlist p).gates ++ qs) drivers_there)

  inner_there : AllByRecursion (Contains drivers) inner
  inner_there = all_join (Contains drivers) (filter is_inner outs) (filter is_inner qs) (filter_in (Contains drivers) outs there_all.gates) (filter_in (Contains drivers) qs qs_there)

  -- and have sites of their own
  abbrev Numbered : Wire → Type 0
  Numbered w = IsNumbered (length (driven a.netlist)) w

  numbered : OfAllNets Numbered (written_netlist a.netlist p)
  numbered = all_of a p named valid

  outs_numbered : AllByRecursion Numbered outs
  outs_numbered =
      all_map_back Numbered (λ (g : Gate Wire). Numbered g.out × AllByRecursion Numbered g.ins) out_of (λ g h. h.0) (test_gates a.netlist p)
      (all_back (λ (g : Gate Wire). Numbered g.out × AllByRecursion Numbered g.ins) (map (written_gate p) a.netlist.gates) (test_gates a.netlist p) numbered.gates)

  qs_numbered : AllByRecursion Numbered qs
  qs_numbered = all_map_back Numbered (λ (f : Flop Wire). Numbered f.q × Numbered f.d) q_in (λ f h. h.0) (flops p) numbered.flops

  inner_numbered : AllByRecursion Numbered inner
  inner_numbered = all_join Numbered (filter is_inner outs) (filter is_inner qs) (filter_in Numbered outs outs_numbered) (filter_in Numbered qs qs_numbered)

  site_is : (w : Wire) → Numbered w → IsAdded w → wire_site a w ≡ scalar_site (symbol_name w)
  site_is w h added = by (side (length (driven a.netlist)) w h)
    where
      by : Side w → wire_site a w ≡ scalar_site (symbol_name w)
      by (IsKept net is) = absurd (subst IsAdded is added)
      by (IsNew new) = new.site a

  inner_have : (k : ℕ) (ws : List Wire) → ((i : ℕ) (e : Entry) → slice_get (map inner_entry ws) i ≡ Some e → slice_get all (k + i) ≡ Some e) → AllByRecursion (Contains drivers) ws → AllByRecursion Numbered ws → AllByRecursion IsAdded ws
      → AllByRecursion (HasSymbol all) (scalar_bits k (length ws))
  inner_have k [] h c n d = tt
  inner_have k (w ∷ ws) h c n d = (
    (w, c.0, ap (λ o. site_in o 0) at ∙ sym (site_is w n.0 d.0)),
    inner_have (k + 1) ws (λ i e there. let s : k + 1 + i ≡ k + suc i = omega arith in ap (slice_get all) s ∙ h (suc i) e there) c.1 n.1 d.1,
  )
    where
      at : slice_get all k ≡ Some (inner_entry w)
      at = let s : k ≡ k + 0 = omega arith in ap (slice_get all) s ∙ h 0 (inner_entry w) refl

  last_have : AllByRecursion (HasSymbol all) (scalar_bits (wires_from a + length back) (length inner))
  last_have = inner_have (wires_from a + length back) inner at inner_there inner_numbered (inner_added a.netlist p valid)
    where
      at : (i : ℕ) (e : Entry) → slice_get (map inner_entry inner) i ≡ Some e → slice_get all (wires_from a + length back + i) ≡ Some e
      at i e there = let s : wires_from a + length back + i ≡ wires_from a + (length back + i) = omega arith in ap (slice_get all) s ∙ past_ports (length back + i) ∙ get_back back (map inner_entry inner) i ∙ there

  pub bits_driven : AllByRecursion (HasSymbol (written_variables a p)) (laid_bits a (inner_wires a.netlist p))
  bits_driven =
      let wires : List BitName = all_net_bits a.names (ports_of a.variables) (wires_from a) back in
      let added : List BitName = scalar_bits (wires_from a + length back) (length inner) in
      all_join (HasSymbol all) (role_bits is_port a.clock 0 front) (scalar_bits tests 4 ++ (wires ++ added)) ports_have (all_join (HasSymbol all) (scalar_bits tests 4) (wires ++ added) tests_have (all_join (HasSymbol all) wires added own_wires_have last_have))
