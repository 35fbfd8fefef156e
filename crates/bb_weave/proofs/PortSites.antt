-- The sites of the written netlist's port bits: the original's, and then those of the test.
use Rattle.std.proofs.Common.{arith, ◌≡◌, ℕ, ◌+◌, ◌<◌, ◌≤◌, ◌==◌, suc, List, [], ◌∷◌, ◌++◌, length, map, take, drop, Bool, true, false, Option, Some, None, slice_get, if◌then◌else◌, refl, sym, ap, ◌∙◌, append_assoc, append-nil, codes, take-append-drop}
use Rattle.std.proofs.lemmas.Bool.Decides.{nat_tests}
use Rattle.std.specs.List.{AllByRecursion}
use Rattle.std.specs.Option.{option_map}
use Rattle.bb_base.specs.declared.variable.Role.{Role}
use Rattle.bb_base.specs.declared.variable.Role.TheVariants.{Input, Output, Wire as WireRole}
use Rattle.bb_base.specs.declared.variable.BitName.{BitName}
use Rattle.bb_base.specs.Variables.{Entry, bit_at, is_input, is_output, is_port, range_width, places_but, clock_place, role_bits, ports_of}
use Rattle.bb_base.proofs.Lists.{all_join, map_twice, map_join, same_map, get_front, get_back}
use Rattle.bb_base.specs.Named.{Named, IsConsistent}
use Rattle.bb_net.specs.Sites.{Site, site_in, site_of_bit}
use Rattle.bb_terms.specs.declared.wire.Wire.{Wire}
use Rattle.bb_terms.specs.declared.wire.Wire.TheVariants.{Test, Init, So, Done}
use Rattle.bb_terms.specs.Wires.{symbol_name}
use Rattle.bb_written.specs.Written.{scalar_site, scalar_entry, added_clock, written_clock, added_ports, inner_entry}
use Rattle.bb_lay.specs.Laying.{clock_or}
use Rattle.bb_lay.proofs.Clocks.{all_gets, clock_is_port, front_long, wire_at}

-- the sites of the data bits of variables whose role passes
abbrev pub role_sites : (Role → Bool) → Option BitName → ℕ → List Entry → List Site
role_sites passes clock n [] = []
role_sites passes clock n (v ∷ vs) = (if passes v.1.role then map (site_in (Some v)) (places_but (clock_place clock n) (range_width v.1.range)) else []) ++ role_sites passes clock (n + 1) vs

pub sites_are : (all : List Entry) (passes : Role → Bool) (clock : Option BitName) (n : ℕ) (vs : List Entry) → ((i : ℕ) (x : Entry) → slice_get vs i ≡ Some x → slice_get all (n + i) ≡ Some x)
    → map (site_of_bit all) (role_bits passes clock n vs) ≡ role_sites passes clock n vs
sites_are all passes clock n [] h = refl
sites_are all passes clock n (v ∷ vs) h =
    let rest = sites_are all passes clock (n + 1) vs (λ i x at. let e : n + 1 + i ≡ n + suc i = omega arith in ap (slice_get all) e ∙ h (suc i) x at) in
    map_join (site_of_bit all) (if passes v.1.role then map (bit_at n) places else []) (role_bits passes clock (n + 1) vs) ∙ (λ i. by (passes v.1.role) i ++ rest i)
  where
    places : List ℕ
    places = places_but (clock_place clock n) (range_width v.1.range)

    here : slice_get all n ≡ Some v
    here =
        let e : n ≡ n + 0 = omega arith in
        ap (slice_get all) e ∙ h 0 v refl

    by : (b : Bool) → map (site_of_bit all) (if b then map (bit_at n) places else []) ≡ (if b then map (site_in (Some v)) places else [])
    by true = map_twice (site_of_bit all) (bit_at n) places ∙ same_map (λ q. site_of_bit all (bit_at n q)) (site_in (Some v)) (λ q. ap (λ o. site_in o q) here) places
    by false = refl

pub sites_join : (passes : Role → Bool) (clock : Option BitName) (n : ℕ) (xs ys : List Entry) → role_sites passes clock n (xs ++ ys) ≡ role_sites passes clock n xs ++ role_sites passes clock (n + length xs) ys
sites_join passes clock n [] ys =
    let e : n ≡ n + 0 = omega arith in
    ap (λ k. role_sites passes clock k ys) e
sites_join passes clock n (v ∷ xs) ys =
    let e : n + 1 + length xs ≡ n + suc (length xs) = omega arith in
    let here : List Site = if passes v.1.role then map (site_in (Some v)) (places_but (clock_place clock n) (range_width v.1.range)) else [] in
    ap (λ ks. here ++ ks) (sites_join passes clock (n + 1) xs ys ∙ ap (λ k. role_sites passes clock (n + 1) xs ++ role_sites passes clock k ys) e)
    ∙ sym (append_assoc here (role_sites passes clock (n + 1) xs) (role_sites passes clock (n + suc (length xs)) ys))

pub sites_none : (passes : Role → Bool) (clock : Option BitName) (n : ℕ) (vs : List Entry) → AllByRecursion (λ (v : Entry). passes v.1.role ≡ false) vs → role_sites passes clock n vs ≡ []
sites_none passes clock n [] h = refl
sites_none passes clock n (v ∷ vs) h =
    let places : List Site = map (site_in (Some v)) (places_but (clock_place clock n) (range_width v.1.range)) in
    ap (λ b. (if b then places else []) ++ role_sites passes clock (n + 1) vs) h.0 ∙ sites_none passes clock (n + 1) vs h.1

sites_clock : (passes : Role → Bool) (c d : Option BitName) (n : ℕ) (vs : List Entry) → ((m : ℕ) → m < n + length vs → clock_place c m ≡ clock_place d m) → role_sites passes c n vs ≡ role_sites passes d n vs
sites_clock passes c d n [] h = refl
sites_clock passes c d n (v ∷ vs) h =
    let here = h n (omega arith) in
    let rest = sites_clock passes c d (n + 1) vs (λ m less. h m (omega (arith, less))) in
    λ i. (if passes v.1.role then map (site_in (Some v)) (places_but (here i) (range_width v.1.range)) else []) ++ rest i

-- where the clock's place is
clock_apart : (c : BitName) (m : ℕ) → (c.variable ≡ m → ⊥) → clock_place (Some c) m ≡ None
clock_apart c m apart = by (c.variable == m) refl
  where
    by : (b : Bool) → (c.variable == m) ≡ b → (if b then Some c.place else None) ≡ None
    by true t = absurd (apart (grind (arith, nat_tests)))
    by false t = refl

clock_here : (p : ℕ) → clock_place (Some (bit_at p 0)) p ≡ Some 0
clock_here p = by (p == p) refl
  where
    by : (b : Bool) → (p == p) ≡ b → if◌then◌else◌ {A = Option ℕ} b (Some 0) None ≡ Some 0
    by true t = refl
    by false t = absurd (grind (arith, nat_tests))

pub input_only : (r : Role) → is_port r ≡ false → is_input r ≡ false
input_only Input h = h
input_only Output h = refl
input_only WireRole h = refl

pub output_only : (r : Role) → is_port r ≡ false → is_output r ≡ false
output_only Input h = refl
output_only Output h = h
output_only WireRole h = refl

-- the added wires are no ports
pub inner_no_ports : (ws : List Wire) → AllByRecursion (λ (v : Entry). is_port v.1.role ≡ false) (map inner_entry ws)
inner_no_ports [] = tt
inner_no_ports (w ∷ ws) = (refl, inner_no_ports ws)

module _ (a : Named) (h : IsConsistent a) (ws : List Wire) where
  abbrev p : ℕ
  p = ports_of a.variables

  abbrev front : List Entry
  front = take p a.variables

  abbrev own : List Entry
  own = drop p a.variables

  abbrev middle : List Entry
  middle = added_clock a.clock

  abbrev clock : Option BitName
  clock = clock_or a.clock p

  abbrev last : List Entry
  last = map inner_entry ws

  abbrev all : List Entry
  all = front ++ (middle ++ (added_ports ++ (own ++ last)))

  front_clock : (m : ℕ) → m < p → clock_place clock m ≡ clock_place a.clock m
  front_clock m less = by a.clock
    where
      by : (o : Option BitName) → clock_place (clock_or o p) m ≡ clock_place o m
      by (Some c) = refl
      by None = clock_apart (bit_at p 0) m (λ e. omega (arith, e, less))

  late_clock : (m : ℕ) → p + length middle ≤ m → clock_place clock m ≡ None
  late_clock m past = by a.clock refl past
    where
      by : (o : Option BitName) → a.clock ≡ o → p + length (added_clock o) ≤ m → clock_place (clock_or o p) m ≡ None
      by (Some c) e k = clock_apart c m (λ s. let less = clock_is_port a h c e in omega (arith, s, less, k))
      by None e k = clock_apart (bit_at p 0) m (λ s. omega (arith, s, k))

  middle_sites : (passes : Role → Bool) → role_sites passes clock p middle ≡ []
  middle_sites passes = by a.clock
    where
      on : (b : Bool) → (if b then map (site_in (Some (scalar_entry Input (codes "bt_clk")))) (places_but (clock_place (Some (bit_at p 0)) p) 1) else []) ++ [] ≡ []
      on true = ap (λ o. map (site_in (Some (scalar_entry Input (codes "bt_clk")))) (places_but o 1) ++ []) (clock_here p)
      on false = refl

      by : (o : Option BitName) → role_sites passes (clock_or o p) p (added_clock o) ≡ []
      by (Some c) = refl
      by None = on (passes Input)

  own_wires : AllByRecursion (λ (v : Entry). is_port v.1.role ≡ false) own
  own_wires = all_gets (λ (v : Entry). is_port v.1.role ≡ false) own (λ i v at. wire_at a.variables h.ports_first (p + i) v (whole i v at) (omega arith))
    where
      whole : (i : ℕ) (v : Entry) → slice_get own i ≡ Some v → slice_get a.variables (p + i) ≡ Some v
      whole i v at =
          let place : p + i ≡ length front + i = omega (arith, front_long a.variables) in
          ap (λ ks. slice_get ks (p + i)) (sym (take-append-drop p a.variables)) ∙ ap (slice_get (front ++ own)) place ∙ get_back front own i ∙ at

  last_wires : AllByRecursion (λ (v : Entry). is_port v.1.role ≡ false) (own ++ last)
  last_wires = all_join (λ (v : Entry). is_port v.1.role ≡ false) own last own_wires (inner_no_ports ws)

  module _ (passes : Role → Bool) (only : (r : Role) → is_port r ≡ false → passes r ≡ false) where
    pass_none : (vs : List Entry) → AllByRecursion (λ (v : Entry). is_port v.1.role ≡ false) vs → AllByRecursion (λ (v : Entry). passes v.1.role ≡ false) vs
    pass_none [] k = tt
    pass_none (v ∷ vs) k = (only v.1.role k.0, pass_none vs k.1)

    -- the original's bits of a role
    own_sites : map (site_of_bit a.variables) (role_bits passes a.clock 0 a.variables) ≡ role_sites passes a.clock 0 front
    own_sites =
        sites_are a.variables passes a.clock 0 a.variables (λ i x at. let e : 0 + i ≡ i = omega arith in ap (slice_get a.variables) e ∙ at) ∙ ap (role_sites passes a.clock 0) (sym (take-append-drop p a.variables))
        ∙ sites_join passes a.clock 0 front own ∙ ap (λ ks. role_sites passes a.clock 0 front ++ ks) (sites_none passes a.clock (0 + length front) own (pass_none own own_wires))
        ∙ append-nil (role_sites passes a.clock 0 front)

    -- and those of the written netlist: the same, and those of the test
    sites_of_role : map (site_of_bit all) (role_bits passes clock 0 all) ≡ map (site_of_bit a.variables) (role_bits passes a.clock 0 a.variables) ++ role_sites passes clock (p + length middle) added_ports
    sites_of_role =
        let q : ℕ = p + length middle in
        let at_front : 0 + length front ≡ p = omega (arith, front_long a.variables) in
        let tests : List Site = role_sites passes clock q added_ports in
        let kept : List Site = role_sites passes a.clock 0 front in
        let none : role_sites passes clock (q + length added_ports) (own ++ last) ≡ [] = sites_none passes clock (q + length added_ports) (own ++ last) (pass_none (own ++ last) last_wires) in
        let behind : role_sites passes clock q (added_ports ++ (own ++ last)) ≡ tests = sites_join passes clock q added_ports (own ++ last) ∙ ap (λ ks. tests ++ ks) none ∙ append-nil tests in
        let rest : role_sites passes clock p (middle ++ (added_ports ++ (own ++ last))) ≡ tests = sites_join passes clock p middle (added_ports ++ (own ++ last)) ∙ (λ i. middle_sites passes i ++ behind i) in
        sites_are all passes clock 0 all (λ i x at. let e : 0 + i ≡ i = omega arith in ap (slice_get all) e ∙ at) ∙ sites_join passes clock 0 front (middle ++ (added_ports ++ (own ++ last)))
        ∙ (λ i. sites_clock passes clock a.clock 0 front (λ m less. front_clock m (omega (arith, less, at_front))) i ++ role_sites passes clock (at_front i) (middle ++ (added_ports ++ (own ++ last))))
        ∙ ap (λ ks. kept ++ ks) rest ∙ ap (λ ks. ks ++ tests) (sym own_sites)

  input_tests : role_sites is_input clock (p + length middle) added_ports ≡ scalar_site (symbol_name Test) ∷ scalar_site (symbol_name Init) ∷ []
  input_tests =
      let q : ℕ = p + length middle in
      let one = late_clock q (omega arith) in
      let two = late_clock (q + 1) (omega arith) in
      λ i. map (site_in (Some (scalar_entry Input (symbol_name Test)))) (places_but (one i) 1) ++ (map (site_in (Some (scalar_entry Input (symbol_name Init)))) (places_but (two i) 1) ++ [])

  output_tests : role_sites is_output clock (p + length middle) added_ports ≡ scalar_site (symbol_name So) ∷ scalar_site (symbol_name Done) ∷ []
  output_tests =
      let q : ℕ = p + length middle in
      let three = late_clock (q + 1 + 1) (omega arith) in
      let four = late_clock (q + 1 + 1 + 1) (omega arith) in
      λ i. map (site_in (Some (scalar_entry Output (symbol_name So)))) (places_but (three i) 1) ++ (map (site_in (Some (scalar_entry Output (symbol_name Done)))) (places_but (four i) 1) ++ [])

  -- all inputs and outputs, by sites
  pub inputs_are : map (site_of_bit all) (role_bits is_input clock 0 all) ≡ map (site_of_bit a.variables) (role_bits is_input a.clock 0 a.variables) ++ scalar_site (symbol_name Test) ∷ scalar_site (symbol_name Init) ∷ []
  inputs_are = sites_of_role is_input input_only ∙ ap (λ ks. map (site_of_bit a.variables) (role_bits is_input a.clock 0 a.variables) ++ ks) input_tests

  pub outputs_are : map (site_of_bit all) (role_bits is_output clock 0 all) ≡ map (site_of_bit a.variables) (role_bits is_output a.clock 0 a.variables) ++ scalar_site (symbol_name So) ∷ scalar_site (symbol_name Done) ∷ []
  outputs_are = sites_of_role is_output output_only ∙ ap (λ ks. map (site_of_bit a.variables) (role_bits is_output a.clock 0 a.variables) ++ ks) output_tests

  -- the variables of the original's ports stand where they stood
  pub front_get : (n : ℕ) → n < p → slice_get all n ≡ slice_get a.variables n
  front_get n less =
      get_front front (middle ++ (added_ports ++ (own ++ last))) n (omega (arith, front_long a.variables, less)) ∙ sym (get_front front own n (omega (arith, front_long a.variables, less))) ∙ ap (λ ks. slice_get ks n) (take-append-drop p a.variables)

  -- the clock's site
  pub clock_site : option_map (site_of_bit all) clock ≡ written_clock (option_map (site_of_bit a.variables) a.clock)
  clock_site = by a.clock refl all front_get refl
    where
      by : (o : Option BitName) → a.clock ≡ o → (vs : List Entry) → ((n : ℕ) → n < p → slice_get vs n ≡ slice_get a.variables n) → vs ≡ front ++ (added_clock o ++ (added_ports ++ (own ++ last)))
          → option_map (site_of_bit vs) (clock_or o p) ≡ written_clock (option_map (site_of_bit a.variables) o)
      by (Some c) e vs get is = ap (λ v. Some (site_in v c.place)) (get c.variable (clock_is_port a h c e))
      by None e vs get is =
          let place : p ≡ length front + 0 = omega (arith, front_long a.variables) in
          let rest : List Entry = scalar_entry Input (codes "bt_clk") ∷ (added_ports ++ (own ++ last)) in
          ap (λ v. Some (site_in v 0)) (ap (λ ks. slice_get ks p) is ∙ ap (slice_get (front ++ rest)) place ∙ get_back front rest 0)
