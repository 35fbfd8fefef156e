-- What a canonical text's module denotes: the netlist under numbers by variables and bits.
use Rattle.std.proofs.Common.{◌≡◌, inl, inr, ℕ, ◌<◌, ◌≤◌, zero, suc, List, [], ◌∷◌, length, map, Option, Some, None, Bool, true, nat_eq, AllPairs, slice_get, get_or, refl, sym, ap, ◌∙◌, arith, subst}
use Rattle.std.specs.Prelude.{Ok}
use Rattle.std.specs.List.{AllByRecursion}
use Rattle.std.specs.Option.{option_map}
use Rattle.std.proofs.lemmas.Bool.Decides.{nat_tests}
use Rattle.std.proofs.lemmas.Option.{same_Some}
use Rattle.std.proofs.lemmas.List.{get_or-map, get_or_default}
use Rattle.std.proofs.lemmas.List.Elements.{All-from_recursion, recursion_from_All, All-map}
use Rattle.std.proofs.lemmas.List.Sums.{passes_at_first}
use Rattle.bb_base.specs.declared.variable.BitName.{BitName}
use Rattle.bb_base.specs.Net.{Gate, Flop, renamed, renamed_gate, renamed_flop}
use Rattle.bb_base.specs.Variables.{Entry, IsBit, range_width, bit_count, limit_of, StandsBefore}
use Rattle.bb_base.specs.Named.{Named, IsNamed, design_of, name_of_net, IsByBits}
use Rattle.bb_base.specs.Order.{IsOrder, HasOrder}
use Rattle.bb_base.proofs.Lists.{map_twice, length_map}
use Rattle.bb_parse.specs.declared.syntax.Module.{Module}
use Rattle.bb_scope.specs.Text.{text_fault}
use Rattle.bb_drive.specs.Nets.{bit_name, has_bit, all_variables}
use Rattle.bb_drive.specs.Clock.{clock_of}
use Rattle.bb_drive.specs.NamedOf.{kept, named_of}
use Rattle.bb_drive.specs.NamedOf.{place_among, netlist_by_number}
use Rattle.bb_meaning.specs.Outcome.{work_in, variables_in, net_fault, first_fault, denoted, IsOutcome}
use Rattle.bb_meaning.proofs.CountedFault.{counted_first}
use Rattle.bb_print.specs.Elaborated.{HasNamesFor, IsElaborable}
use Rattle.bb_canon_parse.specs.Printed.{spelled_module}
use Rattle.bb_spell.proofs.Rising.{Rising}
use Rattle.bb_print.proofs.PrintedBits.{bit_number, number_of, bit_again}
use Rattle.bb_print.proofs.PrintedWork.{net_number, net_bit, printed_variables, printed_work, printed_text}
use Rattle.bb_print.proofs.PrintedNets.{clock_bit, work_by, no_driver_fault, all_variables_are}
use Rattle.bb_print.proofs.PrintedClock.{no_clock_fault, clock_is, by_bits_are, IsNetBit, kept_nets, kept_has, kept_rises}
use Rattle.bb_net.proofs.Renaming.{renamed_twice}
use Rattle.bb_print.proofs.Renumbered.{Numbers, renumbered, renumbered_named, renumbered_design, renumbered_order}
use Rattle.bb_print.proofs.NetsOf.{input_nets, output_nets, gate_outs, gate_ins, flop_qs, flop_ds}
use Rattle.bb_print.proofs.Sieves.{fixed, or_none, weaken}
use Rattle.bb_print.proofs.NumberLists.{has_all, has_at, place_again, place_within, rising_same}

abbrev none : BitName
none = record { variable = 0; place = 0 }

module _ (a : Named) (h : IsNamed a) where
  abbrev bits : Option BitName → List ℕ
  bits o = kept a.variables (work_by a h o)

  abbrev rho : Option BitName → ℕ → ℕ
  rho o n = place_among (bits o) (net_number a n)

  abbrev names : Option BitName → List BitName
  names o = map (bit_name 0 a.variables) (bits o)

  net_again : (n : ℕ) → n < length a.names → bit_name 0 a.variables (net_number a n) ≡ name_of_net a n
  net_again n l = bit_again a.variables (name_of_net a n) (net_bit a h n l)

  module _ (o : Option BitName) (e : a.clock ≡ o) where
    rho_below : (n : ℕ) → n < length a.names → rho o n < length (bits o)
    rho_below n l = place_within (net_number a n) (bits o) (kept_has a h o e n l)

    rho_bit : (n : ℕ) → n < length a.names → get_or (bits o) (rho o n) 0 ≡ net_number a n
    rho_bit n l =
        let test : nat_eq (net_number a n) (get_or (bits o) (rho o n) 0) ≡ true = passes_at_first (nat_eq (net_number a n)) (bits o) 0 (rho_below n l) in
        grind (arith, nat_tests)

    numbers : Numbers a (names o) (rho o)
    numbers = record {
      below = λ n l. subst (λ z. rho o n < z) (sym (length_map (bit_name 0 a.variables) (bits o))) (rho_below n l);
      name = λ n l. get_or-map (bit_name 0 a.variables) (bits o) (rho o n) 0 (record { variable = 0; place = 0 }) (rho_below n l) ∙ ap (bit_name 0 a.variables) (rho_bit n l) ∙ net_again n l;
      onto = λ i l.
          let within : i < length (bits o) = subst (λ z. i < z) (length_map (bit_name 0 a.variables) (bits o)) l in
          let found : IsNetBit a h (get_or (bits o) i 0) = All-from_recursion (IsNetBit a h) (bits o) (kept_nets a h o e) i 0 within in
          (found.0, found.1, ap (place_among (bits o)) found.2 ∙ place_again (bits o) i 0 (kept_rises a h o) within);
    }

    clock_same : option_map (bit_name 0 a.variables) (clock_of (work_by a h o)) ≡ a.clock
    clock_same = ap (option_map (bit_name 0 a.variables)) (clock_is a h o e) ∙ go o e ∙ sym e
      where
        go : (p : Option BitName) → a.clock ≡ p → option_map (bit_name 0 a.variables) (option_map (number_of a.variables) p) ≡ p
        go None f = refl
        go (Some c) f = ap Some (bit_again a.variables c (clock_bit a h c f))

    netlist_same : netlist_by_number a.variables (work_by a h o) ≡ renamed (rho o) a.netlist
    netlist_same = ap (renamed (place_among (bits o))) (by_bits_are a h o e) ∙ renamed_twice (net_number a) (place_among (bits o)) a.netlist

    named_same : named_of a.module_name a.variables (work_by a h o) ≡ renumbered a (names o) (rho o)
    named_same = λ i. record { module_name = a.module_name; variables = a.variables; clock = clock_same i; names = names o; netlist = netlist_same i }

    net_faults : net_fault a.variables (work_by a h o) ≡ None
    net_faults = or_none _ _ (no_driver_fault a h o e) (no_clock_fault a h o e)

    -- where nets are numbered by variables and bits already
    abbrev IsNet : ℕ → Type 0
    IsNet n = n < length a.names

    module _ (ordered : IsByBits a) where
      number_rises : (vs : List Entry) (i j p q : ℕ) (v w : Entry) → slice_get vs i ≡ Some v → slice_get vs j ≡ Some w → p < range_width v.1.range → i < j → bit_number vs i p < bit_number vs j q
      number_rises [] i j p q v w x y less before = cc
      number_rises (u ∷ vs) i zero p q v w x y less before = absurd (omega arith)
      number_rises (u ∷ vs) zero (suc j) p q v w x y less before =
          let same : u ≡ v = same_Some u v x in
          let within : p < range_width u.1.range = subst (λ (z : Entry). p < range_width z.1.range) (sym same) less in
          omega (arith, within)
      number_rises (u ∷ vs) (suc i) (suc j) p q v w x y less before =
          let rest = number_rises vs i j p q v w x y less (omega arith) in
          omega (arith, rest)

      place_rises : (vs : List Entry) (i p q : ℕ) → p < q → bit_number vs i p < bit_number vs i q
      place_rises [] i p q l = l
      place_rises (u ∷ vs) zero p q l = l
      place_rises (u ∷ vs) (suc i) p q l =
          let rest = place_rises vs i p q l in
          omega (arith, rest)

      before_less : (b c : BitName) → IsBit a.variables b → IsBit a.variables c → StandsBefore b c → number_of a.variables b < number_of a.variables c
      before_less b c x y (inl less) = number_rises a.variables b.variable c.variable b.place c.place x.entry y.entry x.stands y.stands x.place less
      before_less b c x y (inr same) = subst (λ z. number_of a.variables b < bit_number a.variables z c.place) same.0 (place_rises a.variables b.variable b.place c.place same.1)

      bits_rise : (bs : List BitName) → AllByRecursion (IsBit a.variables) bs → AllPairs StandsBefore bs → Rising (map (number_of a.variables) bs)
      bits_rise [] all pairs = tt
      bits_rise (b ∷ bs) all pairs =
          (above bs all.1 (recursion_from_All (StandsBefore b) bs (λ j d l. pairs 0 (suc j) d (omega arith) (omega arith))), bits_rise bs all.1 (λ i j d l k. pairs (suc i) (suc j) d (omega arith) (omega arith)))
        where
          above : (cs : List BitName) → AllByRecursion (IsBit a.variables) cs → AllByRecursion (StandsBefore b) cs → AllByRecursion (λ m. number_of a.variables b < m) (map (number_of a.variables) cs)
          above [] x y = tt
          above (c ∷ cs) x y = (before_less b c all.0 x.0 y.0, above cs x.1 y.1)

      abbrev name_numbers : List ℕ
      name_numbers = map (number_of a.variables) a.names

      number_at : (n : ℕ) → IsNet n → get_or name_numbers n 0 ≡ net_number a n
      number_at n l = get_or-map (number_of a.variables) a.names n none 0 l

      net_has : (n : ℕ) → IsNet n → has_bit name_numbers (net_number a n) ≡ true
      net_has n l = ap (has_bit name_numbers) (sym (number_at n l)) ∙ has_at name_numbers n 0 (subst (λ z. n < z) (sym (length_map (number_of a.variables) a.names)) l)

      bits_same : bits o ≡ name_numbers
      bits_same =
          rising_same (bits o) name_numbers (kept_rises a h o) (bits_rise a.names (recursion_from_All (IsBit a.variables) a.names h.consistent.bits) ordered)
          (λ b t. has_all (λ b. has_bit name_numbers b ≡ true) (bits o) b (weaken (IsNetBit a h) (λ b. has_bit name_numbers b ≡ true) (λ b x. ap (has_bit name_numbers) (sym x.2) ∙ net_has x.0 x.1) (bits o) (kept_nets a h o e)) t)
          (λ b t. has_all (λ b. has_bit (bits o) b ≡ true) name_numbers b
          (recursion_from_All (λ b. has_bit (bits o) b ≡ true) name_numbers (All-map (λ b. has_bit (bits o) b ≡ true) (number_of a.variables) a.names
          (λ n d l. ap (λ (z : BitName). has_bit (bits o) (number_of a.variables z)) (get_or_default a.names n d none l) ∙ kept_has a h o e n l))) t)

      rho_same : (n : ℕ) → IsNet n → rho o n ≡ n
      rho_same n l =
          ap (λ z. place_among z (net_number a n)) bits_same ∙ ap (place_among name_numbers) (sym (number_at n l))
          ∙ place_again name_numbers n 0 (subst Rising bits_same (kept_rises a h o)) (subst (λ z. n < z) (sym (length_map (number_of a.variables) a.names)) l)

      names_same : names o ≡ a.names
      names_same =
          ap (map (bit_name 0 a.variables)) bits_same ∙ map_twice (bit_name 0 a.variables) (number_of a.variables) a.names
          ∙ fixed (λ b. bit_name 0 a.variables (number_of a.variables b)) a.names (weaken (IsBit a.variables) (λ b. bit_name 0 a.variables (number_of a.variables b) ≡ b) (bit_again a.variables) a.names (recursion_from_All (IsBit a.variables) a.names h.consistent.bits))

      nets_fixed : (xs : List ℕ) → AllByRecursion IsNet xs → map (rho o) xs ≡ xs
      nets_fixed xs all = fixed (rho o) xs (weaken IsNet (λ n. rho o n ≡ n) rho_same xs all)

      gates_fixed : (gs : List (Gate ℕ)) → AllByRecursion (λ (g : Gate ℕ). IsNet g.out) gs → AllByRecursion (λ (g : Gate ℕ). AllByRecursion IsNet g.ins) gs → map (renamed_gate (rho o)) gs ≡ gs
      gates_fixed [] x y = refl
      gates_fixed (g ∷ gs) x y = λ i. record { op = g.op; out = rho_same g.out x.0 i; ins = nets_fixed g.ins y.0 i } ∷ gates_fixed gs x.1 y.1 i

      flops_fixed : (fs : List (Flop ℕ)) → AllByRecursion (λ (f : Flop ℕ). IsNet f.q) fs → AllByRecursion (λ (f : Flop ℕ). IsNet f.d) fs → map (renamed_flop (rho o)) fs ≡ fs
      flops_fixed [] x y = refl
      flops_fixed (f ∷ fs) x y = λ i. record { q = rho_same f.q x.0 i; d = rho_same f.d y.0 i } ∷ flops_fixed fs x.1 y.1 i

      all_fixed : renumbered a (names o) (rho o) ≡ a
      all_fixed =
          let inputs = nets_fixed a.netlist.inputs (input_nets a h) in
          let outputs = nets_fixed a.netlist.outputs (output_nets a h) in
          let gates = gates_fixed a.netlist.gates (gate_outs a h) (gate_ins a h) in
          let flops = flops_fixed a.netlist.flops (flop_qs a h) (flop_ds a h) in
          λ i. record { module_name = a.module_name; variables = a.variables; clock = a.clock; names = names_same i; netlist = record { inputs = inputs i; outputs = outputs i; gates = gates i; flops = flops i } }

  -- the module of the netlist's text
  abbrev spelled : Module
  spelled = spelled_module (design_of a)

  variables_same : variables_in spelled ≡ a.variables
  variables_same = (λ i. all_variables (printed_variables a h i) (printed_work a h i)) ∙ all_variables_are a h a.clock

  denoted_is : denoted spelled ≡ renumbered a (names a.clock) (rho a.clock)
  denoted_is = (λ i. named_of a.module_name (variables_same i) (printed_work a h i)) ∙ named_same a.clock refl

  -- has no fault
  pub no_fault : (own : Bool) → HasNamesFor own a → bit_count a.variables ≤ limit_of own → first_fault own (spelled_module (design_of a)) ≡ None
  no_fault own named small = counted_first own spelled ∙ or_none (text_fault own spelled) (net_fault (variables_in spelled) (work_in spelled)) (printed_text a h own named small) ((λ i. net_fault (variables_same i) (printed_work a h i)) ∙ net_faults a.clock refl)

  -- and denotes a netlist of the same design
  pub denoted_named : IsNamed (denoted (spelled_module (design_of a)))
  denoted_named = subst IsNamed (sym denoted_is) (renumbered_named a (names a.clock) (rho a.clock) h (numbers a.clock refl))

  pub denoted_design : design_of (denoted (spelled_module (design_of a))) ≡ design_of a
  denoted_design = ap design_of denoted_is ∙ renumbered_design a (names a.clock) (rho a.clock) h (numbers a.clock refl)

  -- which is the netlist itself where its nets are numbered so
  pub denoted_same : IsByBits a → denoted (spelled_module (design_of a)) ≡ a
  denoted_same ordered = denoted_is ∙ all_fixed a.clock refl ordered

  pub denoted_order : HasOrder a.netlist.gates → HasOrder (denoted (spelled_module (design_of a))).netlist.gates
  denoted_order order = (order.0, subst (λ (z : Named). IsOrder z.netlist.gates order.0) (sym denoted_is) (renumbered_order a (names a.clock) (rho a.clock) h (numbers a.clock refl) order.0 order.1))

  pub elaborated : (own : Bool) → IsElaborable own a → IsOutcome own (spelled_module (design_of a)) (Ok (denoted (spelled_module (design_of a))))
  elaborated own fits = (no_fault own fits.names fits.bits, refl, denoted_order fits.order)
