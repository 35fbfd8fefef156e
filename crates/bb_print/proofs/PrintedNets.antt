-- The nets, drivers and clock of what a canonical text's module makes.
use Rattle.std.proofs.Common.{◌≡◌, ◌≢◌, ◌⊎◌, inl, inr, ℕ, ◌+◌, ◌-◌, ◌<◌, ◌≤◌, List, [], ◌∷◌, ◌++◌, length, map, Option, Some, None, IsSome, Bool, true, false, not, ◌||◌, nat_eq, nat_lt, slice_get, refl, sym, ap, ◌∙◌, arith, subst, append-nil}
use Rattle.std.specs.Prelude.{filter, flat_map, count_by}
use Rattle.std.specs.List.{AllByRecursion, range_with_len}
use Rattle.std.specs.Option.{option_map}
use Rattle.std.proofs.lemmas.Bool.Decides.{nat_tests}
use Rattle.std.proofs.lemmas.Option.{same_Some}
use Rattle.std.proofs.lemmas.List.Folds.{list_any-append}
use Rattle.bb_base.specs.declared.variable.BitName.{BitName}
use Rattle.bb_base.specs.declared.variable.Role.{Role}
use Rattle.bb_base.specs.declared.variable.Role.TheVariants.{Input, Output, Wire}
use Rattle.bb_base.specs.Net.{Gate, Flop, times, renamed_gate}
use Rattle.bb_base.specs.Variables.{Entry, IsBit, is_input, is_output, range_width, role_bits, bit_count}
use Rattle.bb_base.specs.Named.{Named, IsNamed, name_of_net}
use Rattle.bb_base.proofs.Lists.{all_join, all_map_back, map_twice}
use Rattle.bb_base.proofs.TimesLemmas.{times_join}
use Rattle.bb_fault.specs.declared.fault.ElabFault.TheVariants.{TwoDrivers, Undriven}
use Rattle.bb_fault.specs.Work.{Work, Clocked}
use Rattle.bb_drive.specs.Nets as elab
use Rattle.bb_drive.specs.Nets.{input_bits, output_bits, has_bit, nets, made_names, made_variable, all_variables, driver_fault, two_drivers, undriven}
use Rattle.bb_print.proofs.PrintedBits.{number_of, one_number, bit_below}
use Rattle.bb_print.proofs.PrintedPorts.{names_numbers, names_stand, names_but, names_apart, numbers_but, bits_have, bits_once}
use Rattle.bb_print.proofs.PrintedWork.{net_number, clocked_by, flops_by, net_bit}
use Rattle.bb_base.proofs.Renamed.{ins_renamed}
use Rattle.bb_print.proofs.Renumbered.{one_place, times_same}
use Rattle.bb_print.proofs.NetsOf.{input_nets, out_nets, q_nets, output_nets, in_nets, d_nets}
use Rattle.bb_print.proofs.Sieves.{found_none, or_left, or_none, or_parts}
use Rattle.bb_print.proofs.NumberLists.{all_but, count_is, has_all, has_times, times_but, times_other}

-- tests on lists -----------------------------------------------------------------

input_no_output : (r : Role) → is_input r ≡ true → is_output r ≡ false
input_no_output Input h = refl
input_no_output Output h = cc
input_no_output Wire h = refl

module _ (a : Named) (h : IsNamed a) where
  abbrev num : ℕ → ℕ
  num = net_number a

  abbrev IsNet : ℕ → Type 0
  IsNet n = n < length a.names

  -- numbers of nets and of the clock
  pub net_below : (n : ℕ) → n < length a.names → net_number a n < bit_count a.variables
  net_below n l = bit_below a.variables (name_of_net a n) (net_bit a h n l)

  pub net_apart : (m n : ℕ) → m < length a.names → n < length a.names → net_number a m ≡ net_number a n → m ≡ n
  net_apart m n p q e = one_place a.names m n (record { variable = 0; place = 0 }) h.alike p q (one_number a.variables (name_of_net a m) (name_of_net a n) (net_bit a h m p) (net_bit a h n q) e)

  pub clock_bit : (c : BitName) → a.clock ≡ Some c → IsBit a.variables c
  clock_bit c e = (h.consistent.clock c e).stands

  pub clock_apart : (c : BitName) (n : ℕ) → a.clock ≡ Some c → n < length a.names → net_number a n ≡ number_of a.variables c → ⊥
  clock_apart c n e l same = h.consistent.apart_from_clock c e n (record { variable = 0; place = 0 }) l (one_number a.variables (name_of_net a n) c (net_bit a h n l) (clock_bit c e) same)

  pub no_flops : a.clock ≡ None → a.netlist.flops ≡ []
  no_flops e = go a.netlist.flops (λ less. h.clocked.1 less)
    where
      go : (fs : List (Flop ℕ)) → (0 < length fs → IsSome a.clock) → fs ≡ []
      go [] k = refl
      go (f ∷ fs) k =
          let some : IsSome {T = BitName} None = subst IsSome e (k (omega arith)) in
          cc

  pub some_flops : (c : BitName) → a.clock ≡ Some c → 0 < length a.netlist.flops
  some_flops c e = h.clocked.0 (subst IsSome (sym e) refl)

  -- what is made, by the clock
  abbrev pub work_by : Option BitName → Work
  work_by o = record { fresh = bit_count a.variables; gates = map (renamed_gate (net_number a)) a.netlist.gates; flops = flops_by a o }

  outs_are : map (λ (g : Gate ℕ). g.out) (map (renamed_gate num) a.netlist.gates) ≡ map num (map (λ (g : Gate ℕ). g.out) a.netlist.gates)
  outs_are = map_twice (λ (g : Gate ℕ). g.out) (renamed_gate num) a.netlist.gates ∙ sym (map_twice num (λ (g : Gate ℕ). g.out) a.netlist.gates)

  qs_are : (o : Option BitName) → a.clock ≡ o → map (λ (f : Clocked). f.q) (flops_by a o) ≡ map num (map (λ (f : Flop ℕ). f.q) a.netlist.flops)
  qs_are None e = ap (λ fs. map num (map (λ (f : Flop ℕ). f.q) fs)) (sym (no_flops e))
  qs_are (Some c) e = map_twice (λ (f : Clocked). f.q) (clocked_by a (number_of a.variables c)) a.netlist.flops ∙ sym (map_twice num (λ (f : Flop ℕ). f.q) a.netlist.flops)

  pub ds_are : (o : Option BitName) → a.clock ≡ o → map (λ (f : Clocked). f.d) (flops_by a o) ≡ map num (map (λ (f : Flop ℕ). f.d) a.netlist.flops)
  ds_are None e = ap (λ fs. map num (map (λ (f : Flop ℕ). f.d) fs)) (sym (no_flops e))
  ds_are (Some c) e = map_twice (λ (f : Clocked). f.d) (clocked_by a (number_of a.variables c)) a.netlist.flops ∙ sym (map_twice num (λ (f : Flop ℕ). f.d) a.netlist.flops)

  -- ports
  names_back : (nets : List ℕ) (bits : List BitName) → map (name_of_net a) nets ≡ bits → map (number_of a.variables) bits ≡ map num nets
  names_back nets bits e = ap (map (number_of a.variables)) (sym e) ∙ map_twice (number_of a.variables) (name_of_net a) nets

  entry_same : (c : BitName) (b : IsBit a.variables c) (i : ℕ) (v : Entry) → slice_get a.variables i ≡ Some v → c.variable ≡ 0 + i → b.entry ≡ v
  entry_same c b i v at e =
      let number : c.variable ≡ i = omega (arith, e) in
      same_Some b.entry v (sym b.stands ∙ ap (slice_get a.variables) number ∙ at)

  pub inputs_none : a.clock ≡ None → input_bits a.variables ≡ map num a.netlist.inputs
  inputs_none e = sym (names_numbers is_input [] a.variables) ∙ names_back a.netlist.inputs (role_bits is_input None 0 a.variables) (h.consistent.inputs ∙ ap (λ o. role_bits is_input o 0 a.variables) e)

  pub inputs_some : (c : BitName) → a.clock ≡ Some c → filter (λ n. not (nat_eq (number_of a.variables c) n)) (input_bits a.variables) ≡ map num a.netlist.inputs
  inputs_some c e =
      let b : IsBit a.variables c = clock_bit c e in
      ap (filter (λ n. not (nat_eq (number_of a.variables c) n))) (sym (names_numbers is_input [] a.variables))
      ∙ numbers_but a.variables c (role_bits is_input None 0 a.variables) b (names_stand is_input [] a.variables)
      ∙ ap (map (number_of a.variables)) (sym (names_but is_input c 0 a.variables (λ i v at same. subst (λ (u : Entry). c.place < range_width u.1.range) (entry_same c b i v at same) b.place)))
      ∙ names_back a.netlist.inputs (role_bits is_input (Some c) 0 a.variables) (h.consistent.inputs ∙ ap (λ o. role_bits is_input o 0 a.variables) e)

  outputs_by : (o : Option BitName) → a.clock ≡ o → role_bits is_output o 0 a.variables ≡ role_bits is_output None 0 a.variables
  outputs_by None e = refl
  outputs_by (Some c) e =
      let k = h.consistent.clock c e in
      names_apart is_output c 0 a.variables (λ i v at same. ap (λ (u : Entry). is_output u.1.role) (sym (entry_same c k.stands i v at same)) ∙ input_no_output k.stands.entry.1.role k.input)

  pub outputs_are : output_bits a.variables ≡ map num a.netlist.outputs
  outputs_are = sym (names_numbers is_output [] a.variables) ∙ names_back a.netlist.outputs (role_bits is_output None 0 a.variables) (h.consistent.outputs ∙ outputs_by a.clock refl)

  -- which bits are driven and read
  abbrev pub IsNumber : Option BitName → ℕ → Type 0
  IsNumber o b = ((n : ℕ) × (n < length a.names) × (net_number a n ≡ b)) ⊎ ((c : BitName) × (o ≡ Some c) × (number_of a.variables c ≡ b))

  are_numbers : (o : Option BitName) (xs : List ℕ) → AllByRecursion IsNet xs → AllByRecursion (IsNumber o) (map num xs)
  are_numbers o xs all = all_map_back (IsNumber o) IsNet num (λ n l. inl (n, l, refl)) xs all

  inputs_numbers : (o : Option BitName) → a.clock ≡ o → AllByRecursion (IsNumber o) (input_bits a.variables)
  inputs_numbers None e = subst (AllByRecursion (IsNumber None)) (sym (inputs_none e)) (are_numbers None a.netlist.inputs (input_nets a h))
  inputs_numbers (Some c) e = all_but (IsNumber (Some c)) (number_of a.variables c) (input_bits a.variables) (inr (c, refl, refl))
      (subst (AllByRecursion (IsNumber (Some c))) (sym (inputs_some c e)) (are_numbers (Some c) a.netlist.inputs (input_nets a h)))

  abbrev outs : List ℕ
  outs = map (λ (g : Gate ℕ). g.out) a.netlist.gates

  abbrev qs : List ℕ
  qs = map (λ (f : Flop ℕ). f.q) a.netlist.flops

  abbrev all_ins : List ℕ
  all_ins = flat_map (λ (g : Gate ℕ). g.ins) a.netlist.gates

  abbrev ds : List ℕ
  ds = map (λ (f : Flop ℕ). f.d) a.netlist.flops

  driven_are : (o : Option BitName) → a.clock ≡ o → elab.bits_driven a.variables (work_by o) ≡ input_bits a.variables ++ (map num outs ++ map num qs)
  driven_are o e = λ i. input_bits a.variables ++ (outs_are i ++ qs_are o e i)

  driven_numbers : (o : Option BitName) → a.clock ≡ o → AllByRecursion (IsNumber o) (elab.bits_driven a.variables (work_by o))
  driven_numbers o e = subst (AllByRecursion (IsNumber o)) (sym (driven_are o e))
      (all_join (IsNumber o) (input_bits a.variables) (map num outs ++ map num qs) (inputs_numbers o e) (all_join (IsNumber o) (map num outs) (map num qs) (are_numbers o outs (out_nets a h)) (are_numbers o qs (q_nets a h))))

  pins_numbers : (o : Option BitName) → AllByRecursion (IsNumber o) (map (λ (f : Clocked). f.clock) (flops_by a o))
  pins_numbers None = tt
  pins_numbers (Some c) = go a.netlist.flops
    where
      go : (fs : List (Flop ℕ)) → AllByRecursion (IsNumber (Some c)) (map (λ (f : Clocked). f.clock) (map (clocked_by a (number_of a.variables c)) fs))
      go [] = tt
      go (f ∷ fs) = (inr (c, refl, refl), go fs)

  read_are : (o : Option BitName) → a.clock ≡ o → elab.bits_read a.variables (work_by o) ≡ map num a.netlist.outputs ++ (map num all_ins ++ (map num ds ++ map (λ (f : Clocked). f.clock) (flops_by a o)))
  read_are o e = λ i. outputs_are i ++ (ins_renamed num a.netlist.gates i ++ (ds_are o e i ++ map (λ (f : Clocked). f.clock) (flops_by a o)))

  read_numbers : (o : Option BitName) → a.clock ≡ o → AllByRecursion (IsNumber o) (elab.bits_read a.variables (work_by o))
  read_numbers o e =
      let pins : List ℕ = map (λ (f : Clocked). f.clock) (flops_by a o) in
      subst (AllByRecursion (IsNumber o)) (sym (read_are o e))
      (all_join (IsNumber o) (map num a.netlist.outputs) (map num all_ins ++ (map num ds ++ pins)) (are_numbers o a.netlist.outputs (output_nets a h))
      (all_join (IsNumber o) (map num all_ins) (map num ds ++ pins) (are_numbers o all_ins (in_nets a h)) (all_join (IsNumber o) (map num ds) pins (are_numbers o ds (d_nets a h)) (pins_numbers o))))

  abbrev pub is_net_bit : Option BitName → ℕ → Bool
  is_net_bit o b = has_bit (elab.bits_driven a.variables (work_by o)) b || has_bit (elab.bits_read a.variables (work_by o)) b

  pub net_numbers : (o : Option BitName) → a.clock ≡ o → (b : ℕ) → is_net_bit o b ≡ true → IsNumber o b
  net_numbers o e b t = or_parts (has_bit (elab.bits_driven a.variables (work_by o)) b) (has_bit (elab.bits_read a.variables (work_by o)) b) t (has_all (IsNumber o) (elab.bits_driven a.variables (work_by o)) b (driven_numbers o e)) (has_all (IsNumber o) (elab.bits_read a.variables (work_by o)) b (read_numbers o e))

  -- each has one driver
  moved_times : (n : ℕ) (xs : List ℕ) → IsNet n → AllByRecursion IsNet xs → times (num n) (map num xs) ≡ times n xs
  moved_times n xs l all = times_same (length a.names) num net_apart n xs l all

  inputs_times : (o : Option BitName) → a.clock ≡ o → (n : ℕ) → IsNet n → times (num n) (input_bits a.variables) ≡ times n a.netlist.inputs
  inputs_times None e n l = ap (times (num n)) (inputs_none e) ∙ moved_times n a.netlist.inputs l (input_nets a h)
  inputs_times (Some c) e n l =
      times_but (num n) (number_of a.variables c) (input_bits a.variables) (go (nat_eq (number_of a.variables c) (num n)) refl)
      ∙ ap (times (num n)) (inputs_some c e) ∙ moved_times n a.netlist.inputs l (input_nets a h)
    where
      go : (t : Bool) → nat_eq (number_of a.variables c) (num n) ≡ t → t ≡ false
      go false f = refl
      go true f = absurd (clock_apart c n e l (grind (arith, nat_tests)))

  net_once : (o : Option BitName) → a.clock ≡ o → (n : ℕ) → IsNet n → times (num n) (elab.bits_driven a.variables (work_by o)) ≡ 1
  net_once o e n l =
      let parts = times_join (num n) (input_bits a.variables) (map num outs ++ map num qs) in
      let more = times_join (num n) (map num outs) (map num qs) in
      let old = times_join n a.netlist.inputs (outs ++ qs) in
      let older = times_join n outs qs in
      let x = inputs_times o e n l in
      let y = moved_times n outs l (out_nets a h) in
      let z = moved_times n qs l (q_nets a h) in
      let one = h.netlist.one_driver n (omega (arith, h.names, l)) in
      let same : times (num n) (elab.bits_driven a.variables (work_by o)) ≡ times (num n) (input_bits a.variables ++ (map num outs ++ map num qs)) = ap (times (num n)) (driven_are o e) in
      omega (arith, parts, more, old, older, x, y, z, one, same)

  nets_other : (c : BitName) → a.clock ≡ Some c → (xs : List ℕ) → AllByRecursion IsNet xs → AllByRecursion (λ x. x ≢ number_of a.variables c) (map num xs)
  nets_other c e xs all = all_map_back (λ x. x ≢ number_of a.variables c) IsNet num (λ n l same. clock_apart c n e l same) xs all

  clock_once : (c : BitName) → a.clock ≡ Some c → times (number_of a.variables c) (elab.bits_driven a.variables (work_by (Some c))) ≤ 1
  clock_once c e =
      let k : ℕ = number_of a.variables c in
      let parts = times_join k (input_bits a.variables) (map num outs ++ map num qs) in
      let more = times_join k (map num outs) (map num qs) in
      let x = bits_once is_input k 0 a.variables in
      let y = times_other k (map num outs) (nets_other c e outs (out_nets a h)) in
      let z = times_other k (map num qs) (nets_other c e qs (q_nets a h)) in
      let same : times k (elab.bits_driven a.variables (work_by (Some c))) ≡ times k (input_bits a.variables ++ (map num outs ++ map num qs)) = ap (times k) (driven_are (Some c) e) in
      omega (arith, parts, more, x, y, z, same)

  once : (o : Option BitName) → a.clock ≡ o → (b : ℕ) → IsNumber o b → times b (elab.bits_driven a.variables (work_by o)) ≤ 1
  once o e b (inl x) = subst (λ z. times z (elab.bits_driven a.variables (work_by o)) ≤ 1) x.2 (omega (arith, net_once o e x.0 x.1))
  once o e b (inr x) = subst (λ z. times z (elab.bits_driven a.variables (work_by o)) ≤ 1) x.2 (subst (λ z. times (number_of a.variables x.0) (elab.bits_driven a.variables (work_by z)) ≤ 1) (sym x.1) (clock_once x.0 (e ∙ x.1)))

  pub clock_input : (c : BitName) → a.clock ≡ Some c → has_bit (input_bits a.variables) (number_of a.variables c) ≡ true
  clock_input c e =
      let k = h.consistent.clock c e in
      let start : 0 + number_of a.variables c ≡ number_of a.variables c = omega arith in
      ap (has_bit (input_bits a.variables)) (sym start) ∙ bits_have is_input 0 a.variables c.variable c.place k.stands.entry k.stands.stands k.input k.stands.place

  pub net_driven : (o : Option BitName) → a.clock ≡ o → (n : ℕ) → n < length a.names → has_bit (elab.bits_driven a.variables (work_by o)) (net_number a n) ≡ true
  net_driven o e n l = has_times (num n) (elab.bits_driven a.variables (work_by o)) (omega (arith, net_once o e n l))

  number_driven : (o : Option BitName) → a.clock ≡ o → (b : ℕ) → IsNumber o b → has_bit (elab.bits_driven a.variables (work_by o)) b ≡ true
  number_driven o e b (inl x) = ap (has_bit (elab.bits_driven a.variables (work_by o))) (sym x.2) ∙ net_driven o e x.0 x.1
  number_driven o e b (inr x) =
      list_any-append (nat_eq b) (input_bits a.variables) _ ∙ or_left (has_bit (input_bits a.variables) b) _ (ap (has_bit (input_bits a.variables)) (sym x.2) ∙ clock_input x.0 (e ∙ x.1))

  few : (b n : ℕ) → n ≤ 1 → nat_lt 1 n ≡ false
  few b n l = grind (arith, nat_tests)

  pub no_driver_fault : (o : Option BitName) → a.clock ≡ o → driver_fault a.variables (work_by o) ≡ None
  no_driver_fault o e =
      or_none (two_drivers a.variables (work_by o)) (undriven a.variables (work_by o))
      (ap (option_map (λ b. TwoDrivers (elab.bit_text a.variables b).name (elab.bit_text a.variables b).index))
      (found_none (is_net_bit o) (λ b. nat_lt 1 (count_by (nat_eq b) (elab.bits_driven a.variables (work_by o)))) (range_with_len 0 (bit_count a.variables))
      (λ b t. few b (count_by (nat_eq b) (elab.bits_driven a.variables (work_by o))) (subst (λ z. z ≤ 1) (sym (count_is b (elab.bits_driven a.variables (work_by o)))) (once o e b (net_numbers o e b t))))))
      (ap (option_map (λ b. Undriven (elab.bit_text a.variables b).name (elab.bit_text a.variables b).index))
      (found_none (is_net_bit o) (λ b. not (has_bit (elab.bits_driven a.variables (work_by o)) b)) (range_with_len 0 (bit_count a.variables))
      (λ b t. ap not (number_driven o e b (net_numbers o e b t)))))

  -- all variables are the text's
  pub all_variables_are : (o : Option BitName) → all_variables a.variables (work_by o) ≡ a.variables
  all_variables_are o =
      let no_made : bit_count a.variables - bit_count a.variables ≡ 0 = omega arith in
      ap (λ k. a.variables ++ map made_variable (made_names a.variables k)) no_made ∙ append-nil a.variables
