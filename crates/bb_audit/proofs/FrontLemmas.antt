-- Netlists with the same module, ports and clock have the same inputs and outputs, by sites.
use Rattle.std.proofs.Common.{arith, ◌≡◌, ℕ, ◌+◌, ◌<◌, suc, List, [], ◌∷◌, ◌++◌, length, map, take, drop, Bool, true, false, Option, Some, None, slice_get, if◌then◌else◌, refl, sym, ap, ◌∙◌, append_assoc, append-nil, take-append-drop}
use Rattle.std.specs.List.{AllByRecursion}
use Rattle.std.specs.Option.{option_map}
use Rattle.bb_base.specs.declared.variable.Role.{Role}
use Rattle.bb_base.specs.declared.variable.Role.TheVariants.{Input, Output, Wire as WireRole}
use Rattle.bb_base.specs.declared.variable.BitName.{BitName}
use Rattle.bb_base.specs.Variables.{Entry, IsBit, bit_at, is_input, is_output, is_port, range_width, places_but, clock_place, role_bits, ports_of}
use Rattle.bb_base.proofs.Lists.{map_twice, map_join, same_map, get_front, get_back}
use Rattle.bb_base.specs.Named.{Named, IsNamed, name_of_net}
use Rattle.bb_net.specs.Sites.{Site, site_in, site_of, site_of_bit, sited}
use Rattle.bb_net.proofs.SiteLemmas.{one_site}
use Rattle.bb_lay.proofs.Clocks.{all_gets, clock_is_port, front_long, wire_at}
use Rattle.bb_alike.specs.Alike.{HasFrontOf}

-- the sites of the data bits of variables whose role passes
abbrev pub role_sites : (Role → Bool) → Option BitName → ℕ → List Entry → List Site
role_sites passes clock n [] = []
role_sites passes clock n (v ∷ vs) = (if passes v.1.role then map (site_in (Some v)) (places_but (clock_place clock n) (range_width v.1.range)) else []) ++ role_sites passes clock (n + 1) vs

sites_are : (all : List Entry) (passes : Role → Bool) (clock : Option BitName) (n : ℕ) (vs : List Entry) → ((i : ℕ) (x : Entry) → slice_get vs i ≡ Some x → slice_get all (n + i) ≡ Some x)
    → map (site_of_bit all) (role_bits passes clock n vs) ≡ role_sites passes clock n vs
sites_are all passes clock n [] h = refl
sites_are all passes clock n (v ∷ vs) h =
    let rest = sites_are all passes clock (n + 1) vs (λ i x at. let e : n + 1 + i ≡ n + suc i = omega arith in ap (slice_get all) e ∙ h (suc i) x at) in
    map_join (site_of_bit all) (if passes v.1.role then map (bit_at n) places else []) (role_bits passes clock (n + 1) vs) ∙ (λ i. by (passes v.1.role) i ++ rest i)
  where
    places : List ℕ
    places = places_but (clock_place clock n) (range_width v.1.range)

    here : slice_get all n ≡ Some v
    here =
        let e : n ≡ n + 0 = omega arith in
        ap (slice_get all) e ∙ h 0 v refl

    by : (b : Bool) → map (site_of_bit all) (if b then map (bit_at n) places else []) ≡ (if b then map (site_in (Some v)) places else [])
    by true = map_twice (site_of_bit all) (bit_at n) places ∙ same_map (λ q. site_of_bit all (bit_at n q)) (site_in (Some v)) (λ q. ap (λ o. site_in o q) here) places
    by false = refl

sites_join : (passes : Role → Bool) (clock : Option BitName) (n : ℕ) (xs ys : List Entry) → role_sites passes clock n (xs ++ ys) ≡ role_sites passes clock n xs ++ role_sites passes clock (n + length xs) ys
sites_join passes clock n [] ys =
    let e : n ≡ n + 0 = omega arith in
    ap (λ k. role_sites passes clock k ys) e
sites_join passes clock n (v ∷ xs) ys =
    let e : n + 1 + length xs ≡ n + suc (length xs) = omega arith in
    let here : List Site = if passes v.1.role then map (site_in (Some v)) (places_but (clock_place clock n) (range_width v.1.range)) else [] in
    ap (λ ks. here ++ ks) (sites_join passes clock (n + 1) xs ys ∙ ap (λ k. role_sites passes clock (n + 1) xs ++ role_sites passes clock k ys) e)
    ∙ sym (append_assoc here (role_sites passes clock (n + 1) xs) (role_sites passes clock (n + suc (length xs)) ys))

sites_none : (passes : Role → Bool) (clock : Option BitName) (n : ℕ) (vs : List Entry) → AllByRecursion (λ (v : Entry). passes v.1.role ≡ false) vs → role_sites passes clock n vs ≡ []
sites_none passes clock n [] h = refl
sites_none passes clock n (v ∷ vs) h =
    let places : List Site = map (site_in (Some v)) (places_but (clock_place clock n) (range_width v.1.range)) in
    ap (λ b. (if b then places else []) ++ role_sites passes clock (n + 1) vs) h.0 ∙ sites_none passes clock (n + 1) vs h.1

input_only : (r : Role) → is_port r ≡ false → is_input r ≡ false
input_only Input h = h
input_only Output h = refl
input_only WireRole h = refl

output_only : (r : Role) → is_port r ≡ false → is_output r ≡ false
output_only Input h = refl
output_only Output h = h
output_only WireRole h = refl

module _ (k : Named) (h : IsNamed k) where
  abbrev count : ℕ
  count = ports_of k.variables

  abbrev pub ports : List Entry
  ports = take count k.variables

  abbrev own : List Entry
  own = drop count k.variables

  whole : (i : ℕ) (v : Entry) → slice_get own i ≡ Some v → slice_get k.variables (count + i) ≡ Some v
  whole i v at =
      let place : count + i ≡ length ports + i = omega (arith, front_long k.variables) in
      ap (λ ks. slice_get ks (count + i)) (sym (take-append-drop count k.variables)) ∙ ap (slice_get (ports ++ own)) place ∙ get_back ports own i ∙ at

  own_pass : (passes : Role → Bool) → ((r : Role) → is_port r ≡ false → passes r ≡ false) → AllByRecursion (λ (v : Entry). passes v.1.role ≡ false) own
  own_pass passes only = all_gets (λ (v : Entry). passes v.1.role ≡ false) own (λ i v at. only v.1.role (wire_at k.variables h.consistent.ports_first (count + i) v (whole i v at) (omega arith)))

  -- the bits of a role are those of ports
  sites_of_role : (passes : Role → Bool) → ((r : Role) → is_port r ≡ false → passes r ≡ false) → map (site_of_bit k.variables) (role_bits passes k.clock 0 k.variables) ≡ role_sites passes k.clock 0 ports
  sites_of_role passes only =
      sites_are k.variables passes k.clock 0 k.variables (λ i x at. let e : 0 + i ≡ i = omega arith in ap (slice_get k.variables) e ∙ at) ∙ ap (role_sites passes k.clock 0) (sym (take-append-drop count k.variables))
      ∙ sites_join passes k.clock 0 ports own ∙ ap (λ ks. role_sites passes k.clock 0 ports ++ ks) (sites_none passes k.clock (0 + length ports) own (own_pass passes only)) ∙ append-nil (role_sites passes k.clock 0 ports)

  inputs_of : map (site_of k) k.netlist.inputs ≡ role_sites is_input k.clock 0 ports
  inputs_of = sym (map_twice (site_of_bit k.variables) (name_of_net k) k.netlist.inputs) ∙ ap (map (site_of_bit k.variables)) h.consistent.inputs ∙ sites_of_role is_input input_only

  outputs_of : map (site_of k) k.netlist.outputs ≡ role_sites is_output k.clock 0 ports
  outputs_of = sym (map_twice (site_of_bit k.variables) (name_of_net k) k.netlist.outputs) ∙ ap (map (site_of_bit k.variables)) h.consistent.outputs ∙ sites_of_role is_output output_only

  -- a port stands among the ports
  pub port_stands : (i : ℕ) → i < count → slice_get ports i ≡ slice_get k.variables i
  port_stands i less = sym (get_front ports own i (omega (arith, less, front_long k.variables))) ∙ ap (λ ks. slice_get ks i) (take-append-drop count k.variables)

module _ (w b : Named) (hw : IsNamed w) (hb : IsNamed b) (same : take (ports_of b.variables) b.variables ≡ take (ports_of w.variables) w.variables) where
  pub count_same : ports_of b.variables ≡ ports_of w.variables
  count_same = sym (front_long b.variables) ∙ ap length same ∙ front_long w.variables

  pub port_same : (i : ℕ) → i < ports_of w.variables → slice_get b.variables i ≡ slice_get w.variables i
  port_same i less = sym (port_stands b hb i (omega (arith, less, count_same))) ∙ ap (λ ks. slice_get ks i) same ∙ port_stands w hw i less

  -- one clock is at one site
  site_from_bit : (c : Option BitName) → b.clock ≡ c → w.clock ≡ c → option_map (site_of_bit b.variables) b.clock ≡ option_map (site_of_bit w.variables) w.clock
  site_from_bit None e f = ap (option_map (site_of_bit b.variables)) e ∙ ap (option_map (site_of_bit w.variables)) (sym f)
  site_from_bit (Some c) e f =
      ap (option_map (site_of_bit b.variables)) e ∙ ap (λ o. Some (site_in o c.place)) (port_same c.variable (clock_is_port w hw.consistent c f)) ∙ ap (option_map (site_of_bit w.variables)) (sym f)

  pub clock_site : b.clock ≡ w.clock → (sited b).clock ≡ (sited w).clock
  clock_site e = site_from_bit w.clock e refl

  -- and at one site is one clock
  pub clock_bit : (sited b).clock ≡ (sited w).clock → b.clock ≡ w.clock
  clock_bit e = by b.clock refl w.clock refl
    where
      by : (c : Option BitName) → b.clock ≡ c → (d : Option BitName) → w.clock ≡ d → c ≡ d
      by None p None q = refl
      by None p (Some d) q = absurd (cc (sym (ap (option_map (site_of_bit b.variables)) p) ∙ e ∙ ap (option_map (site_of_bit w.variables)) q))
      by (Some c) p None q = absurd (cc (sym (ap (option_map (site_of_bit b.variables)) p) ∙ e ∙ ap (option_map (site_of_bit w.variables)) q))
      by (Some c) p (Some d) q =
          let some : Some (site_of_bit b.variables c) ≡ Some (site_of_bit w.variables d) = sym (ap (option_map (site_of_bit b.variables)) p) ∙ e ∙ ap (option_map (site_of_bit w.variables)) q in
          let sites : site_of_bit b.variables c ≡ site_of_bit w.variables d = cc some in
          let there = clock_is_port b hb.consistent c p in
          let here : slice_get b.variables c.variable ≡ slice_get w.variables c.variable = port_same c.variable (omega (arith, there, count_same)) in
          let is_b = (hb.consistent.clock c p).stands in
          let is_c : IsBit w.variables c = record { entry = is_b.entry; stands = sym here ∙ is_b.stands; place = is_b.place } in
          ap Some (one_site w.variables hw.apart c d is_c (hw.consistent.clock d q).stands (ap (λ o. site_in o c.place) (sym here) ∙ sites))

module _ (w b : Named) (hw : IsNamed w) (hb : IsNamed b) (front : HasFrontOf w b) where
  pub inputs_same : (sited b).netlist.inputs ≡ (sited w).netlist.inputs
  inputs_same = inputs_of b hb ∙ (λ i. role_sites is_input (front.clock i) 0 (front.ports i)) ∙ sym (inputs_of w hw)

  pub outputs_same : (sited b).netlist.outputs ≡ (sited w).netlist.outputs
  outputs_same = outputs_of b hb ∙ (λ i. role_sites is_output (front.clock i) 0 (front.ports i)) ∙ sym (outputs_of w hw)
