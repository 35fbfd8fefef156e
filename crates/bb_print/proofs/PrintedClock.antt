-- The clock of what a canonical text's module makes, and the nets but the clock's.
use Rattle.std.proofs.Common.{◌≡◌, ◌≢◌, inl, inr, ℕ, ◌<◌, zero, suc, List, [], ◌∷◌, length, map, Option, Some, None, Bool, true, false, not, ◌&&◌, nat_eq, refl, sym, ap, ◌∙◌, arith, subst, if◌then◌else◌}
use Rattle.std.specs.Prelude.{filter, find, flat_map}
use Rattle.std.specs.List.{AllByRecursion, range_with_len}
use Rattle.std.specs.Option.{option_map, option_or}
use Rattle.std.proofs.lemmas.Option.{same_Some}
use Rattle.bb_base.specs.declared.variable.BitName.{BitName}
use Rattle.bb_base.specs.Net.{Gate, Flop, renamed, renamed_gate, renamed_flop}
use Rattle.bb_base.specs.Named.{Named, IsNamed}
use Rattle.bb_base.proofs.Lists.{all_join, all_map_back, map_twice}
use Rattle.bb_fault.specs.declared.fault.ElabFault.TheVariants.{TwoClocks, ClockNotInput, ClockAsData}
use Rattle.bb_fault.specs.Firsts.{on_some}
use Rattle.bb_base.specs.Variables.{bit_count}
use Rattle.bb_fault.specs.Work.{Work, Clocked}
use Rattle.bb_drive.specs.Nets as elab
use Rattle.bb_drive.specs.Nets.{input_bits, output_bits, has_bit, nets}
use Rattle.bb_drive.specs.Clock.{is_buf, first_of, copied_by, origin_within, origin, clock_pins, clock_not_input, clocks_fault, two_clocks, clock_of, is_clock, read_as_data, clock_as_data, clock_fault}
use Rattle.bb_drive.specs.Clock.{is_data}
use Rattle.bb_drive.specs.NamedOf.{kept, by_bits}
use Rattle.bb_spell.proofs.Rising.{Rising, range_rises}
use Rattle.bb_print.proofs.PrintedBits.{number_of}
use Rattle.bb_print.proofs.PrintedWork.{net_number, clocked_by, flops_by}
use Rattle.bb_print.proofs.PrintedNets.{net_below, clock_apart, no_flops, some_flops, work_by, inputs_none, inputs_some, outputs_are, IsNumber, is_net_bit, net_numbers, net_driven, clock_input, ds_are}
use Rattle.bb_print.proofs.NetsOf.{output_nets, d_nets, gate_outs, gate_ins}
use Rattle.bb_print.proofs.Sieves.{all_true, and_false, both_keep, filter_all, flat_all, found_has, found_none, none_found, or_left, or_none, weaken}
use Rattle.bb_print.proofs.NumberLists.{eq_itself, eq_other, eq_same, filter_has, filter_rises, has_all, has_none, range_all}
use Rattle.bb_drive.specs.Clock.{copied_net}

-- lists -----------------------------------------------------------------------------

copied_has : (P : ℕ → Type 0) (o : Option (Gate ℕ)) (x : ℕ) → ((g : Gate ℕ) → o ≡ Some g → AllByRecursion P g.ins) → copied_by o ≡ Some x → P x
copied_has P None x h e = cc
copied_has P (Some g) x h e = go (is_buf g.op) g.ins (h g refl) e
  where
    go : (b : Bool) (ins : List ℕ) → AllByRecursion P ins → (if b then first_of ins else None) ≡ Some x → P x
    go true [] all e = cc
    go true (n ∷ ns) all e = subst P (same_Some n x e) all.0
    go false ins all e = cc

module _ (a : Named) (h : IsNamed a) where
  abbrev num : ℕ → ℕ
  num = net_number a

  abbrev IsNet : ℕ → Type 0
  IsNet n = n < length a.names

  abbrev gates : List (Gate ℕ)
  gates = map (renamed_gate (net_number a)) a.netlist.gates

  module _ (c : BitName) (e : a.clock ≡ Some c) where
    abbrev k : ℕ
    k = number_of a.variables c

    abbrev w : Work
    w = work_by a h (Some c)

    nets_other : (xs : List ℕ) → AllByRecursion IsNet xs → AllByRecursion (λ x. x ≢ number_of a.variables c) (map num xs)
    nets_other xs all = all_map_back (λ x. x ≢ number_of a.variables c) IsNet num (λ n l same. clock_apart a h c n e l same) xs all

    -- no gate drives the clock, and none reads it
    undriven : find (λ (g : Gate ℕ). nat_eq k g.out) gates ≡ None
    undriven = none_found (λ (g : Gate ℕ). nat_eq k g.out) gates (all_map_back (λ (g : Gate ℕ). nat_eq k g.out ≡ false) (λ (g : Gate ℕ). IsNet g.out) (renamed_gate num) (λ g l. eq_other k (num g.out) (λ same. clock_apart a h c g.out e l (sym same))) a.netlist.gates (gate_outs a h))

    unread : AllByRecursion (λ (g : Gate ℕ). AllByRecursion (λ x. x ≢ k) g.ins) gates
    unread = all_map_back (λ (g : Gate ℕ). AllByRecursion (λ x. x ≢ k) g.ins) (λ (g : Gate ℕ). AllByRecursion IsNet g.ins) (renamed_gate num) (λ g l. nets_other g.ins l) a.netlist.gates (gate_ins a h)

    -- so the way back from it ends there, and from no other net
    clock_origin : (s : ℕ) → origin_within s gates k ≡ k
    clock_origin zero = refl
    clock_origin (suc s) = ap (λ o. on_some (copied_by o) k (origin_within s gates)) undriven

    behind_other : (b x : ℕ) → copied_net gates b ≡ Some x → x ≢ k
    behind_other b x f = copied_has (λ y. y ≢ k) (find (λ (g : Gate ℕ). nat_eq b g.out) gates) x (λ g at. found_has (λ (q : Gate ℕ). AllByRecursion (λ y. y ≢ k) q.ins) (λ (q : Gate ℕ). nat_eq b q.out) gates g unread at) f

    other_origin : (s b : ℕ) → b ≢ k → origin_within s gates b ≢ k
    other_origin zero b other = other
    other_origin (suc s) b other = go (copied_net gates b) refl (λ x f. other_origin s x (behind_other b x f))
      where
        go : (o : Option ℕ) → copied_net gates b ≡ o → ((x : ℕ) → copied_net gates b ≡ Some x → origin_within s gates x ≢ k) → on_some o b (origin_within s gates) ≢ k
        go None f rest = other
        go (Some x) f rest = rest x f

    abbrev pins : List ℕ
    pins = map (λ (f : Clocked). f.clock) (map (clocked_by a k) a.netlist.flops)

    all_pins : (fs : List (Flop ℕ)) → AllByRecursion (λ b. b ≡ k) (map (λ (f : Clocked). f.clock) (map (clocked_by a k) fs))
    all_pins [] = tt
    all_pins (f ∷ fs) = (refl, all_pins fs)

    clock_some : clock_of w ≡ Some k
    clock_some = go a.netlist.flops (some_flops a h c e)
      where
        go : (fs : List (Flop ℕ)) → 0 < length fs → first_of (map (origin w) (map (λ (f : Clocked). f.clock) (map (clocked_by a k) fs))) ≡ Some k
        go [] less = absurd (omega arith)
        go (f ∷ fs) less = ap Some (clock_origin (length gates))

    is_clock_same : (b : ℕ) → is_clock w b ≡ nat_eq k b
    is_clock_same b = ap (λ o. on_some o false (λ clock. nat_eq clock (origin w b))) clock_some ∙ go (nat_eq k b) refl
      where
        go : (t : Bool) → nat_eq k b ≡ t → nat_eq k (origin w b) ≡ t
        go true f = ap (λ z. nat_eq k (origin w z)) (sym (eq_same k b f)) ∙ ap (nat_eq k) (clock_origin (length gates)) ∙ eq_itself k
        go false f = eq_other k (origin w b) (λ same. other_origin (length gates) b (λ is. cc (sym f ∙ ap (nat_eq k) is ∙ eq_itself k)) (sym same))

    not_undriven : clock_not_input a.variables w ≡ None
    not_undriven =
        ap (option_map (λ b. ClockNotInput (elab.bit_text a.variables b).name (elab.bit_text a.variables b).index))
        (found_none (is_net_bit a h (Some c)) (λ b. has_bit (clock_pins w) b && not (has_bit (input_bits a.variables) (origin w b))) (range_with_len 0 (bit_count a.variables))
        (λ b t. and_false (has_bit (clock_pins w) b) (not (has_bit (input_bits a.variables) (origin w b)))
        (λ there. let same : b ≡ k = has_all (λ x. x ≡ k) pins b (all_pins a.netlist.flops) there in
        ap not (ap (λ z. has_bit (input_bits a.variables) (origin w z)) same ∙ ap (has_bit (input_bits a.variables)) (clock_origin (length gates)) ∙ clock_input a h c e))))

    one_clock_of : (xs : List ℕ) → AllByRecursion (λ x. x ≡ k) xs → clocks_fault a.variables w xs ≡ None
    one_clock_of [] all = refl
    one_clock_of (x ∷ xs) all =
        ap (λ o. on_some o None (λ second. Some (TwoClocks ((elab.bit_text a.variables x).name, (elab.bit_text a.variables x).index) ((elab.bit_text a.variables second).name, (elab.bit_text a.variables second).index))))
        (none_found (λ b. not (nat_eq x b)) xs (weaken (λ y. y ≡ k) (λ b. not (nat_eq x b) ≡ false) (λ b same. ap not (ap (nat_eq x) (same ∙ sym all.0) ∙ eq_itself x)) xs all.1))

    one_clock : two_clocks a.variables w ≡ None
    one_clock = one_clock_of (map (origin w) pins) (all_map_back (λ x. x ≡ k) (λ b. b ≡ k) (origin w) (λ b same. ap (origin w) same ∙ clock_origin (length gates)) pins (all_pins a.netlist.flops))

    data_other : AllByRecursion (λ x. x ≢ k) (read_as_data a.variables w)
    data_other =
        let ds : List ℕ = map (λ (f : Flop ℕ). f.d) a.netlist.flops in
        all_join (λ x. x ≢ k) (output_bits a.variables) _ (subst (AllByRecursion (λ x. x ≢ k)) (sym (outputs_are a h)) (nets_other a.netlist.outputs (output_nets a h)))
        (all_join (λ x. x ≢ k) (flat_map (λ (g : Gate ℕ). if is_buf g.op then [] else g.ins) gates) _
        (flat_all (λ x. x ≢ k) (λ (g : Gate ℕ). if is_buf g.op then [] else g.ins) gates (weaken (λ (g : Gate ℕ). AllByRecursion (λ x. x ≢ k) g.ins) (λ (g : Gate ℕ). AllByRecursion (λ x. x ≢ k) (if is_buf g.op then [] else g.ins)) (λ g all. by (is_buf g.op) g.ins all) gates unread))
        (subst (AllByRecursion (λ x. x ≢ k)) (sym (ds_are a h (Some c) e)) (nets_other ds (d_nets a h))))
      where
        by : (b : Bool) (ins : List ℕ) → AllByRecursion (λ x. x ≢ k) ins → AllByRecursion (λ x. x ≢ k) (if b then [] else ins)
        by true ins all = tt
        by false ins all = all

    not_data : clock_as_data a.variables w ≡ None
    not_data =
        ap (option_map (λ b. ClockAsData (elab.bit_text a.variables b).name (elab.bit_text a.variables b).index))
        (found_none (is_net_bit a h (Some c)) (λ b. is_clock w b && has_bit (read_as_data a.variables w) b) (range_with_len 0 (bit_count a.variables))
        (λ b t. and_false (is_clock w b) (has_bit (read_as_data a.variables w) b)
        (λ clock. let same : k ≡ b = eq_same k b (sym (is_clock_same b) ∙ clock) in
        ap (has_bit (read_as_data a.variables w)) (sym same) ∙ has_none (read_as_data a.variables w) k data_other)))

    clock_right : clock_fault a.variables w ≡ None
    clock_right = or_none (clock_not_input a.variables w) (option_or (two_clocks a.variables w) (clock_as_data a.variables w)) not_undriven (or_none (two_clocks a.variables w) (clock_as_data a.variables w) one_clock not_data)

  -- without a clock
  nothing_found : {X : Type 0} (p : X → Bool) (xs : List X) → find (λ (x : X). false) (filter p xs) ≡ None
  nothing_found p xs = found_none p (λ x. false) xs (λ x e. refl)

  no_clock_right : clock_fault a.variables (work_by a h None) ≡ None
  no_clock_right =
      or_none (clock_not_input a.variables (work_by a h None)) (option_or (two_clocks a.variables (work_by a h None)) (clock_as_data a.variables (work_by a h None)))
      (ap (option_map (λ b. ClockNotInput (elab.bit_text a.variables b).name (elab.bit_text a.variables b).index)) (nothing_found (is_net_bit a h None) (range_with_len 0 (bit_count a.variables))))
      (or_none (two_clocks a.variables (work_by a h None)) (clock_as_data a.variables (work_by a h None)) refl
      (ap (option_map (λ b. ClockAsData (elab.bit_text a.variables b).name (elab.bit_text a.variables b).index)) (nothing_found (is_net_bit a h None) (range_with_len 0 (bit_count a.variables)))))

  pub no_clock_fault : (o : Option BitName) → a.clock ≡ o → clock_fault a.variables (work_by a h o) ≡ None
  no_clock_fault None e = no_clock_right
  no_clock_fault (Some c) e = clock_right c e

  -- the nets but the clock's
  abbrev pub free : Option BitName → ℕ → Bool
  free None b = true
  free (Some c) b = not (nat_eq (number_of a.variables c) b)

  pub data_is : (o : Option BitName) → a.clock ≡ o → (b : ℕ) → is_data (work_by a h o) b ≡ free o b
  data_is None e b = refl
  data_is (Some c) e b = ap not (is_clock_same c e b)

  pub clock_is : (o : Option BitName) → a.clock ≡ o → clock_of (work_by a h o) ≡ option_map (number_of a.variables) o
  clock_is None e = refl
  clock_is (Some c) e = clock_some c e

  net_free : (o : Option BitName) → a.clock ≡ o → (n : ℕ) → IsNet n → is_data (work_by a h o) (num n) ≡ true
  net_free None e n l = refl
  net_free (Some c) e n l = data_is (Some c) e (num n) ∙ ap not (eq_other (number_of a.variables c) (num n) (λ same. clock_apart a h c n e l (sym same)))

  inputs_by : (o : Option BitName) → a.clock ≡ o → filter (is_data (work_by a h o)) (input_bits a.variables) ≡ map num a.netlist.inputs
  inputs_by None e = filter_all (λ x. true) (input_bits a.variables) (all_true (λ x. true) (λ x. refl) (input_bits a.variables)) ∙ inputs_none a h e
  inputs_by (Some c) e = ap (λ (f : ℕ → Bool). filter f (input_bits a.variables)) (λ i b. data_is (Some c) e b i) ∙ inputs_some a h c e

  gates_by : (o : Option BitName) → a.clock ≡ o → filter (λ (g : Gate ℕ). is_data (work_by a h o) g.out) gates ≡ gates
  gates_by o e = filter_all (λ (g : Gate ℕ). is_data (work_by a h o) g.out) gates (all_map_back (λ (g : Gate ℕ). is_data (work_by a h o) g.out ≡ true) (λ (g : Gate ℕ). IsNet g.out) (renamed_gate num) (λ g l. net_free o e g.out l) a.netlist.gates (gate_outs a h))

  flops_of : (o : Option BitName) → a.clock ≡ o → map (λ (f : Clocked). record { q = f.q; d = f.d }) (flops_by a o) ≡ map (renamed_flop num) a.netlist.flops
  flops_of None e = ap (map (renamed_flop num)) (sym (no_flops a h e))
  flops_of (Some c) e = map_twice (λ (f : Clocked). record { q = f.q; d = f.d }) (clocked_by a (number_of a.variables c)) a.netlist.flops

  pub by_bits_are : (o : Option BitName) → a.clock ≡ o → by_bits a.variables (work_by a h o) ≡ renamed (net_number a) a.netlist
  by_bits_are o e = λ i. record { inputs = inputs_by o e i; outputs = outputs_are a h i; gates = gates_by o e i; flops = flops_of o e i }

  -- each of them is a net's bit, each net's bit is one of them, and they rise
  abbrev pub IsNetBit : ℕ → Type 0
  IsNetBit b = (n : ℕ) × (n < length a.names) × (net_number a n ≡ b)

  pub kept_nets : (o : Option BitName) → a.clock ≡ o → AllByRecursion IsNetBit (kept a.variables (work_by a h o))
  kept_nets o e = both_keep IsNetBit (is_data (work_by a h o)) (is_net_bit a h o) (range_with_len 0 (bit_count a.variables)) (λ b t f. go b (net_numbers a h o e b t) f)
    where
      go : (b : ℕ) → IsNumber a h o b → is_data (work_by a h o) b ≡ true → IsNetBit b
      go b (inl x) f = x
      go b (inr x) f =
          let clock : a.clock ≡ Some x.0 = e ∙ x.1 in
          let right : is_data (work_by a h (Some x.0)) b ≡ true = subst (λ z. is_data (work_by a h z) b ≡ true) x.1 f in
          let is : nat_eq (number_of a.variables x.0) b ≡ true = ap (λ z. nat_eq z b) x.2 ∙ eq_itself b in
          cc (sym right ∙ data_is (Some x.0) clock b ∙ ap not is)

  pub kept_has : (o : Option BitName) → a.clock ≡ o → (n : ℕ) → n < length a.names → has_bit (kept a.variables (work_by a h o)) (net_number a n) ≡ true
  kept_has o e n l =
      filter_has (is_data (work_by a h o)) (nets a.variables (work_by a h o)) (num n) (net_free o e n l)
      (filter_has (is_net_bit a h o) (range_with_len 0 (bit_count a.variables)) (num n)
      (or_left (has_bit (elab.bits_driven a.variables (work_by a h o)) (num n)) (has_bit (elab.bits_read a.variables (work_by a h o)) (num n)) (net_driven a h o e n l))
      (range_all (bit_count a.variables) (num n) (net_below a h n l)))

  pub kept_rises : (o : Option BitName) → Rising (kept a.variables (work_by a h o))
  kept_rises o = filter_rises (is_data (work_by a h o)) (nets a.variables (work_by a h o)) (filter_rises (is_net_bit a h o) (range_with_len 0 (bit_count a.variables)) (range_rises 0 (bit_count a.variables)))
