-- A named netlist whose nets get other numbers is one again, of the same design and with the same order.
use Rattle.std.proofs.Common.{◌≡◌, ◌≢◌, ℕ, ◌+◌, ◌<◌, ◌≤◌, zero, suc, List, [], ◌∷◌, ◌++◌, length, map, cond, Bool, true, false, nat_eq, nat_lt, All, AllPairs, get_or, refl, sym, ap, ◌∙◌, arith, subst}
use Rattle.std.specs.Prelude.{◌&&◌}
use Rattle.std.specs.List.{AllByRecursion, list_all, range_with_len}
use Rattle.std.specs.List.Sorted.{IsPermutation}
use Rattle.std.specs.Option.{option_map}
use Rattle.std.proofs.lemmas.Bool.Decides.{nat_tests}
use Rattle.std.proofs.lemmas.List.{get_or_default}
use Rattle.std.proofs.lemmas.List.Elements.{All-from_recursion, All-map, All-weaker}
use Rattle.std.proofs.lemmas.List.Folds.{list_all-map}
use Rattle.bb_base.specs.declared.variable.BitName.{BitName}
use Rattle.bb_base.specs.Net.{Gate, Flop, renamed, renamed_gate, renamed_flop, driven, reads, times, HasArity}
use Rattle.bb_base.specs.Operators.{IsArity}
use Rattle.bb_base.specs.Variables.{Bit, IsBit, bit_of}
use Rattle.bb_base.specs.Named.{Named, IsNamed, design_of, name_of_net, net_text}
use Rattle.bb_base.specs.Order.{IsOrder, HasLevel, is_within, drivers, is_empty}
use Rattle.bb_base.proofs.Lists.{all_join, all_map_back, map_join, map_twice, same_map_at, length_map, get_map}
use Rattle.bb_base.proofs.Renamed.{driven_renamed, reads_renamed}
use Rattle.bb_base.proofs.TimesLemmas.{times_head, times_past, length_once}
use Rattle.bb_print.proofs.NetsOf.{driven_nets, read_nets, input_nets, output_nets, gate_outs, gate_ins, flop_qs, flop_ds}
use Rattle.bb_print.proofs.Sieves.{item_at}

abbrev none : BitName
none = record { variable = 0; place = 0 }

-- two numbers of one item among different ones are one
pub one_place : {X : Type 0} (xs : List X) (i j : ℕ) (d : X) → AllPairs (λ x y. x ≢ y) xs → i < length xs → j < length xs → get_or xs i d ≡ get_or xs j d → i ≡ j
one_place xs i j d apart a b e = go (nat_lt i j) (nat_lt j i) refl refl
  where
    go : (x y : Bool) → nat_lt i j ≡ x → nat_lt j i ≡ y → i ≡ j
    go true y p q = absurd (apart i j d (grind (arith, nat_tests)) b e)
    go false true p q = absurd (apart j i d (grind (arith, nat_tests)) a (sym e))
    go false false p q = grind (arith, nat_tests)

-- new numbers and the names that stand under them
pub record Numbers (a : Named) (names : List BitName) (rho : ℕ → ℕ) : Type 0 where
  pub below : (n : ℕ) → n < length a.names → rho n < length names
  pub name : (n : ℕ) → n < length a.names → get_or names (rho n) (record { variable = 0; place = 0 }) ≡ name_of_net a n
  pub onto : (i : ℕ) → i < length names → (n : ℕ) × (n < length a.names) × (rho n ≡ i)

abbrev pub renumbered : Named → List BitName → (ℕ → ℕ) → Named
renumbered a names rho = record { module_name = a.module_name; variables = a.variables; clock = a.clock; names = names; netlist = renamed rho a.netlist }

-- nets under numbers that tell them apart
module _ (size : ℕ) (rho : ℕ → ℕ) (apart : (m n : ℕ) → m < size → n < size → rho m ≡ rho n → m ≡ n) where
  abbrev Small : ℕ → Type 0
  Small n = n < size

  pub same_test : (m n : ℕ) → m < size → n < size → nat_eq (rho m) (rho n) ≡ nat_eq m n
  same_test m n p q = go (nat_eq (rho m) (rho n)) (nat_eq m n) refl refl
    where
      go : (x y : Bool) → nat_eq (rho m) (rho n) ≡ x → nat_eq m n ≡ y → x ≡ y
      go true true e f = refl
      go false false e f = refl
      go true false e f =
          let one : rho m ≡ rho n = grind (arith, nat_tests) in
          let same : m ≡ n = apart m n p q one in
          grind (arith, nat_tests)
      go false true e f =
          let same : m ≡ n = grind (arith, nat_tests) in
          let one : rho m ≡ rho n = ap rho same in
          grind (arith, nat_tests)

  pub times_same : (n : ℕ) (xs : List ℕ) → n < size → AllByRecursion (λ m. m < size) xs → times (rho n) (map rho xs) ≡ times n xs
  times_same n [] p h = refl
  times_same n (x ∷ xs) p h =
      times_head (rho n) (rho x) (map rho xs) ∙ (λ i. cond (same_test x n h.0 p i) 1 0 + times_same n xs p h.1 i) ∙ sym (times_head n x xs)

  -- gates
  abbrev SmallGate : Gate ℕ → Type 0
  SmallGate g = (g.out < size) × AllByRecursion (λ m. m < size) g.ins

  drivers_same : (gates : List (Gate ℕ)) (n : ℕ) → n < size → AllByRecursion SmallGate gates → drivers (map (renamed_gate rho) gates) (rho n) ≡ map (renamed_gate rho) (drivers gates n)
  drivers_same [] n p h = refl
  drivers_same (g ∷ gs) n p h = go (nat_eq g.out n) refl (drivers_same gs n p h.1)
    where
      go : (b : Bool) → nat_eq g.out n ≡ b → drivers (map (renamed_gate rho) gs) (rho n) ≡ map (renamed_gate rho) (drivers gs n) → drivers (map (renamed_gate rho) (g ∷ gs)) (rho n) ≡ map (renamed_gate rho) (drivers (g ∷ gs) n)
      go true e rest =
          let there : nat_eq (rho g.out) (rho n) ≡ true = same_test g.out n h.0.0 p ∙ e in
          rw (e, there) (ap (λ z. renamed_gate rho g ∷ z) rest)
      go false e rest =
          let there : nat_eq (rho g.out) (rho n) ≡ false = same_test g.out n h.0.0 p ∙ e in
          rw (e, there) rest

  drivers_small : (gates : List (Gate ℕ)) (n : ℕ) → AllByRecursion SmallGate gates → AllByRecursion SmallGate (drivers gates n)
  drivers_small [] n h = tt
  drivers_small (g ∷ gs) n h = go (nat_eq g.out n) refl (drivers_small gs n h.1)
    where
      go : (b : Bool) → nat_eq g.out n ≡ b → AllByRecursion SmallGate (drivers gs n) → AllByRecursion SmallGate (drivers (g ∷ gs) n)
      go true e rest = rw e (h.0, rest)
      go false e rest = rw e rest

  empty_same : (gs : List (Gate ℕ)) → is_empty (map (renamed_gate rho) gs) ≡ is_empty gs
  empty_same [] = refl
  empty_same (g ∷ gs) = refl

  all_same : {X : Type 0} (p q : X → Bool) (P : X → Type 0) → ((x : X) → P x → p x ≡ q x) → (xs : List X) → AllByRecursion P xs → list_all p xs ≡ list_all q xs
  all_same p q P f [] h = refl
  all_same p q P f (x ∷ xs) h = λ i. f x h.0 i && all_same p q P f xs h.1 i

  module _ (gates : List (Gate ℕ)) (small : AllByRecursion SmallGate gates) where
    abbrev moved : List (Gate ℕ)
    moved = map (renamed_gate rho) gates

    within_same : (k n : ℕ) → n < size → is_within (map (renamed_gate rho) gates) k (rho n) ≡ is_within gates k n
    within_same zero n p = ap is_empty (drivers_same gates n p small) ∙ empty_same (drivers gates n)
    within_same (suc k) n p =
        ap (list_all (λ (g : Gate ℕ). list_all (is_within moved k) g.ins)) (drivers_same gates n p small)
        ∙ list_all-map (λ (g : Gate ℕ). list_all (is_within moved k) g.ins) (renamed_gate rho) (drivers gates n)
        ∙ all_same (λ (g : Gate ℕ). list_all (is_within moved k) (map rho g.ins)) (λ (g : Gate ℕ). list_all (is_within gates k) g.ins) SmallGate
        (λ g s. list_all-map (is_within moved k) rho g.ins ∙ all_same (λ m. is_within moved k (rho m)) (is_within gates k) Small (λ m l. within_same k m l) g.ins s.1) (drivers gates n) (drivers_small gates n small)

    ins_same : (k : ℕ) (ins : List ℕ) → AllByRecursion Small ins → list_all (is_within (map (renamed_gate rho) gates) k) (map rho ins) ≡ list_all (is_within gates k) ins
    ins_same k ins h = list_all-map (is_within moved k) rho ins ∙ all_same (λ m. is_within moved k (rho m)) (is_within gates k) Small (λ m l. within_same k m l) ins h

    level_same : (g : Gate ℕ) (level : ℕ) → AllByRecursion Small g.ins → HasLevel gates g level → HasLevel (map (renamed_gate rho) gates) (renamed_gate rho g) level
    level_same g level s h = record { within = ins_same level g.ins s ∙ h.within; least = λ k less. ins_same k g.ins s ∙ h.least k less }

    pub order_same : (order : List ℕ) → IsOrder gates order → IsOrder (map (renamed_gate rho) gates) order
    order_same order h = record {
      level = h.level;
      levels = λ j g at. let found = get_map (renamed_gate rho) gates j g at in
          subst (λ z. HasLevel moved z (h.level j)) found.2 (level_same found.0 (h.level j) (item_at SmallGate gates j found.0 small found.1).1 (h.levels j found.0 found.1));
      each_once = subst (λ z. IsPermutation (range_with_len 0 z) order) (sym (length_map (renamed_gate rho) gates)) h.each_once;
      ascending = h.ascending;
    }

module _ (a : Named) (names : List BitName) (rho : ℕ → ℕ) (h : IsNamed a) (numbers : Numbers a names rho) where
  abbrev size : ℕ
  size = length a.names

  abbrev IsNet : ℕ → Type 0
  IsNet n = n < length a.names

  pub apart : (m n : ℕ) → m < length a.names → n < length a.names → rho m ≡ rho n → m ≡ n
  apart m n p q e = one_place a.names m n none h.alike p q (sym (numbers.name m p) ∙ ap (λ i. get_or names i none) e ∙ numbers.name n q)

  move_all : (xs : List ℕ) → AllByRecursion IsNet xs → AllByRecursion (λ m. m < length names) (map rho xs)
  move_all xs all = all_map_back (λ m. m < length names) IsNet rho (λ n l. numbers.below n l) xs all

  drives_below : All (λ m. m < length names) (driven (renamed rho a.netlist))
  drives_below = subst (All (λ m. m < length names)) (sym (driven_renamed rho a.netlist)) (All-from_recursion (λ m. m < length names) (map rho (driven a.netlist)) (move_all (driven a.netlist) (driven_nets a h)))

  reads_below : All (λ m. m < length names) (reads (renamed rho a.netlist))
  reads_below = subst (All (λ m. m < length names)) (sym (reads_renamed rho a.netlist)) (All-from_recursion (λ m. m < length names) (map rho (reads a.netlist)) (move_all (reads a.netlist) (read_nets a h)))

  -- a new number stands as often as the old one
  times_onto : (i : ℕ) (xs : List ℕ) (within : i < length names) → AllByRecursion IsNet xs → times i (map rho xs) ≡ times (numbers.onto i within).0 xs
  times_onto i xs within all =
      let found = numbers.onto i within in
      ap (λ z. times z (map rho xs)) (sym found.2) ∙ times_same size rho apart found.0 xs found.1 all

  once : (i : ℕ) → i < length names → times i (driven (renamed rho a.netlist)) ≡ 1
  once i within =
      let found = numbers.onto i within in
      ap (times i) (driven_renamed rho a.netlist) ∙ times_onto i (driven a.netlist) within (driven_nets a h) ∙ h.netlist.one_driver found.0 (omega (arith, h.names, found.1))

  as_many : length (driven (renamed rho a.netlist)) ≡ length names
  as_many = length_once (length names) (driven (renamed rho a.netlist)) drives_below once

  -- what holds of each old name holds of each new one
  of_names : (P : BitName → Type 0) → All P a.names → All P names
  of_names P all i d within =
      let found = numbers.onto i within in
      let named : get_or names i d ≡ get_or a.names found.0 none = get_or_default names i d none within ∙ ap (λ z. get_or names z none) (sym found.2) ∙ numbers.name found.0 found.1 in
      subst P (sym named) (all found.0 none found.1)

  text_same : (xs : List ℕ) → AllByRecursion IsNet xs → map (name_of_net (renumbered a names rho)) (map rho xs) ≡ map (name_of_net a) xs
  text_same xs all = map_twice (name_of_net (renumbered a names rho)) rho xs ∙ same_map_at (λ n. name_of_net (renumbered a names rho) (rho n)) (name_of_net a) IsNet (λ n l. numbers.name n l) xs all

  ports_once : (i : ℕ) → times i (map rho a.netlist.inputs ++ map rho a.netlist.outputs) ≤ 1
  ports_once i = go (nat_lt i (length names)) refl
    where
      both : AllByRecursion IsNet (a.netlist.inputs ++ a.netlist.outputs)
      both = all_join IsNet a.netlist.inputs a.netlist.outputs (input_nets a h) (output_nets a h)

      joined : map rho a.netlist.inputs ++ map rho a.netlist.outputs ≡ map rho (a.netlist.inputs ++ a.netlist.outputs)
      joined = sym (map_join rho a.netlist.inputs a.netlist.outputs)

      go : (b : Bool) → nat_lt i (length names) ≡ b → times i (map rho a.netlist.inputs ++ map rho a.netlist.outputs) ≤ 1
      go true t =
          let within : i < length names = grind (arith, nat_tests) in
          let same : times i (map rho a.netlist.inputs ++ map rho a.netlist.outputs) ≡ times (numbers.onto i within).0 (a.netlist.inputs ++ a.netlist.outputs) = ap (times i) joined ∙ times_onto i (a.netlist.inputs ++ a.netlist.outputs) within both in
          omega (arith, same, h.consistent.ports (numbers.onto i within).0)
      go false t =
          let past : length names ≤ i = grind (arith, nat_tests) in
          let none_there : times i (map rho a.netlist.inputs ++ map rho a.netlist.outputs) ≡ 0 = ap (times i) joined
          ∙ times_past i (map rho (a.netlist.inputs ++ a.netlist.outputs)) (length names) past (All-from_recursion (λ m. m < length names) (map rho (a.netlist.inputs ++ a.netlist.outputs)) (move_all (a.netlist.inputs ++ a.netlist.outputs) both)) in
          omega (arith, none_there)

  arities_same : All HasArity (map (renamed_gate rho) a.netlist.gates)
  arities_same = All-map HasArity (renamed_gate rho) a.netlist.gates (All-weaker HasArity (λ (g : Gate ℕ). HasArity (renamed_gate rho g)) (λ g e. subst (IsArity g.op) (sym (length_map rho g.ins)) e) a.netlist.gates h.consistent.arities)

  alike_same : AllPairs (λ x y. x ≢ y) names
  alike_same i j d less within e =
      let first : i < length names = omega arith in
      let x = numbers.onto i first in
      let y = numbers.onto j within in
      let left : get_or names i d ≡ get_or a.names x.0 none = get_or_default names i d none first ∙ ap (λ z. get_or names z none) (sym x.2) ∙ numbers.name x.0 x.1 in
      let right : get_or names j d ≡ get_or a.names y.0 none = get_or_default names j d none within ∙ ap (λ z. get_or names z none) (sym y.2) ∙ numbers.name y.0 y.1 in
      let one : x.0 ≡ y.0 = one_place a.names x.0 y.0 none h.alike x.1 y.1 (sym left ∙ e ∙ right) in
      let same : i ≡ j = sym x.2 ∙ ap rho one ∙ y.2 in
      omega (arith, same, less)

  pub renumbered_named : IsNamed (renumbered a names rho)
  renumbered_named = record {
    consistent = record {
      module_name = h.consistent.module_name;
      entries = h.consistent.entries;
      ports_first = h.consistent.ports_first;
      clock = h.consistent.clock;
      bits = of_names (IsBit a.variables) h.consistent.bits;
      apart_from_clock = λ c e. of_names (λ bit. bit ≢ c) (h.consistent.apart_from_clock c e);
      inputs = text_same a.netlist.inputs (input_nets a h) ∙ h.consistent.inputs;
      outputs = text_same a.netlist.outputs (output_nets a h) ∙ h.consistent.outputs;
      ports = ports_once;
      drives_nets = drives_below;
      reads_nets = reads_below;
      arities = arities_same;
    };
    netlist = record {
      one_driver = λ net less. once net (omega (arith, less, as_many));
      drives_nets = subst (λ z. All (λ m. m < z) (driven (renamed rho a.netlist))) (sym as_many) drives_below;
      reads_nets = subst (λ z. All (λ m. m < z) (reads (renamed rho a.netlist))) (sym as_many) reads_below;
      ports = ports_once;
      arities = arities_same;
    };
    names = sym as_many;
    alike = alike_same;
    apart = h.apart;
    clocked = (λ e. subst (λ z. 0 < z) (sym (length_map (renamed_flop rho) a.netlist.flops)) (h.clocked.0 e), λ e. h.clocked.1 (subst (λ z. 0 < z) (length_map (renamed_flop rho) a.netlist.flops) e));
  }

  -- the design
  abbrev text : ℕ → Bit
  text = net_text (renumbered a names rho)

  net_same : (n : ℕ) → IsNet n → net_text (renumbered a names rho) (rho n) ≡ net_text a n
  net_same n l = ap (bit_of a.variables) (numbers.name n l)

  nets_same : (xs : List ℕ) → AllByRecursion IsNet xs → map (net_text (renumbered a names rho)) (map rho xs) ≡ map (net_text a) xs
  nets_same xs all = map_twice text rho xs ∙ same_map_at (λ n. text (rho n)) (net_text a) IsNet net_same xs all

  abbrev IsGate : Gate ℕ → Type 0
  IsGate g = (g.out < length a.names) × AllByRecursion (λ m. m < length a.names) g.ins

  abbrev IsFlop : Flop ℕ → Type 0
  IsFlop f = (f.q < length a.names) × (f.d < length a.names)

  both : {X : Type 0} (P Q : X → Type 0) (xs : List X) → AllByRecursion P xs → AllByRecursion Q xs → AllByRecursion (λ x. P x × Q x) xs
  both P Q [] p q = tt
  both P Q (x ∷ xs) p q = ((p.0, q.0), both P Q xs p.1 q.1)

  gates_small : AllByRecursion IsGate a.netlist.gates
  gates_small = both (λ (g : Gate ℕ). IsNet g.out) (λ (g : Gate ℕ). AllByRecursion IsNet g.ins) a.netlist.gates (gate_outs a h) (gate_ins a h)

  flops_small : AllByRecursion IsFlop a.netlist.flops
  flops_small = both (λ (f : Flop ℕ). IsNet f.q) (λ (f : Flop ℕ). IsNet f.d) a.netlist.flops (flop_qs a h) (flop_ds a h)

  gate_text_same : (g : Gate ℕ) → IsGate g → renamed_gate (net_text (renumbered a names rho)) (renamed_gate rho g) ≡ renamed_gate (net_text a) g
  gate_text_same g s = λ i. record { op = g.op; out = net_same g.out s.0 i; ins = nets_same g.ins s.1 i }

  flop_text_same : (f : Flop ℕ) → IsFlop f → renamed_flop (net_text (renumbered a names rho)) (renamed_flop rho f) ≡ renamed_flop (net_text a) f
  flop_text_same f s = λ i. record { q = net_same f.q s.0 i; d = net_same f.d s.1 i }

  pub renumbered_design : design_of (renumbered a names rho) ≡ design_of a
  renumbered_design =
      let inputs = nets_same a.netlist.inputs (input_nets a h) in
      let outputs = nets_same a.netlist.outputs (output_nets a h) in
      let gates = map_twice (renamed_gate text) (renamed_gate rho) a.netlist.gates ∙ same_map_at (λ g. renamed_gate text (renamed_gate rho g)) (renamed_gate (net_text a)) IsGate gate_text_same a.netlist.gates gates_small in
      let flops = map_twice (renamed_flop text) (renamed_flop rho) a.netlist.flops ∙ same_map_at (λ f. renamed_flop text (renamed_flop rho f)) (renamed_flop (net_text a)) IsFlop flop_text_same a.netlist.flops flops_small in
      λ i. record { module_name = a.module_name; variables = a.variables; clock = option_map (bit_of a.variables) a.clock; netlist = record { inputs = inputs i; outputs = outputs i; gates = gates i; flops = flops i } }

  pub renumbered_order : (order : List ℕ) → IsOrder a.netlist.gates order → IsOrder (renumbered a names rho).netlist.gates order
  renumbered_order order o = order_same size rho apart a.netlist.gates gates_small order o
