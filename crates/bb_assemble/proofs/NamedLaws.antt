-- What is made denotes a named netlist, where drivers and clocks have no fault, arities hold, and names differ.
use Rattle.std.proofs.Common.{◌≡◌, ◌≢◌, ◌↔◌, ◌⊎◌, inl, inr, ℕ, ◌+◌, ◌-◌, ◌<◌, ◌≤◌, zero, suc, nat_eq, nat_lt, not, ◌||◌, List, [], ◌∷◌, ◌++◌, map, filter, length, All, AllPairs, Bool, true, false, Option, Some, None, IsSome, slice_get, if◌then◌else◌, refl, sym, ap, subst, ◌∙◌, arith}
use Rattle.std.proofs.lemmas.Bool.Decides.{nat_tests}
use Rattle.std.proofs.lemmas.Bool.{false≢true}
use Rattle.std.proofs.lemmas.List.{get_or-map}
use Rattle.std.proofs.lemmas.List.Elements.{All-from_recursion}
use Rattle.std.proofs.lemmas.List.Folds.{list_any-append}
use Rattle.std.specs.List.{AllByRecursion, range_with_len}
use Rattle.std.specs.Option.{option_map, ForSome}
use Rattle.bb_base.specs.Name.{IsName}
use Rattle.bb_base.specs.declared.variable.BitName.{BitName}
use Rattle.bb_base.specs.declared.variable.Role.{Role}
use Rattle.bb_base.specs.Variables.{Entry, IsEntry, IsBit, is_input, is_output, range_width, bit_at, bit_count}
use Rattle.bb_base.proofs.Lists.{length_map}
use Rattle.bb_base.specs.Net.{renamed_flop, driven, reads, HasArity}
use Rattle.bb_base.specs.Named.{Named, name_of_net, IsClock, IsConsistent, IsNamed}
use Rattle.bb_fault.specs.Firsts.{on_some}
use Rattle.bb_fault.specs.Work.{Work, Clocked}
use Rattle.bb_drive.specs.Nets.{bit_name, bits_from, has_bit, input_bits, output_bits}
use Rattle.bb_drive.specs.Clock.{clock_of, first_of, origin, is_data}
use Rattle.bb_drive.specs.NamedOf.{kept, place_among, named_of}
use Rattle.bb_assemble.specs.Assembling.{ArePortsFirst, KeepsPorts}
use Rattle.bb_assemble.proofs.NamedBits.{one_name, name_least}
use Rattle.bb_drive.proofs.BitBounds.{range_in, or_split, bits_in}
use Rattle.bb_assemble.proofs.KeptLaws.{clock_is_input, input_origin, output_is_data, port_is_data}
use Rattle.bb_assemble.proofs.AssembleLaws.{inputs_named, outputs_named}
use Rattle.bb_assemble.proofs.BuiltLaws.{filter_all}
use Rattle.bb_assemble.proofs.KeptNets.{all_placed, all_images, has_placed, IsFineWork, IsKept, outputs_kept}
use Rattle.bb_assemble.proofs.NumberedNets.{names_alike, kept_data, kept_below, drives_below, reads_below, as_many, inputs_kept, ports_few, arities_kept, is_netlist, bit_placed}

-- bits of variables -----------------------------------------------------------

range_least : (from n b : ℕ) → has_bit (range_with_len from n) b ≡ true → from ≤ b
range_least from zero b h = cc
range_least from (suc n) b h = by (nat_eq b from) refl h (range_least (from + 1) n b)
  where
    by : (t : Bool) → nat_eq b from ≡ t → (t || has_bit (range_with_len (from + 1) n) b) ≡ true → (has_bit (range_with_len (from + 1) n) b ≡ true → from + 1 ≤ b) → from ≤ b
    by true e k rec = let same : b ≡ from = grind (arith, nat_tests) in omega arith
    by false e k rec = omega (arith, rec k)

bits_least : (passes : Role → Bool) (first : ℕ) (vs : List Entry) (b : ℕ) → has_bit (bits_from passes first vs) b ≡ true → first ≤ b
bits_least passes first [] b h = cc
bits_least passes first (v ∷ vs) b h = by (passes v.1.role) h (bits_least passes (first + range_width v.1.range) vs b)
  where
    by : (t : Bool) → has_bit ((if t then range_with_len first (range_width v.1.range) else []) ++ bits_from passes (first + range_width v.1.range) vs) b ≡ true
        → (has_bit (bits_from passes (first + range_width v.1.range) vs) b ≡ true → first + range_width v.1.range ≤ b) → first ≤ b
    by false k rec = omega (arith, rec k)
    by true k rec =
        here (or_split (has_bit (range_with_len first (range_width v.1.range)) b) (has_bit (bits_from passes (first + range_width v.1.range) vs) b)
        (sym (list_any-append (nat_eq b) (range_with_len first (range_width v.1.range)) (bits_from passes (first + range_width v.1.range) vs)) ∙ k))
      where
        here : (has_bit (range_with_len first (range_width v.1.range)) b ≡ true) ⊎ (has_bit (bits_from passes (first + range_width v.1.range) vs) b ≡ true) → first ≤ b
        here (inl l) = range_least first (range_width v.1.range) b l
        here (inr l) = omega (arith, rec l)

-- the bit's variable stands, with its role
record Stands (passes : Role → Bool) (vs : List Entry) (number first b : ℕ) (bit : BitName) : Type 0 where
  entry : Entry
  at : slice_get vs (bit.variable - number) ≡ Some entry
  place : bit.place < range_width entry.1.range
  role : has_bit (bits_from passes first vs) (first + b) ≡ true → passes entry.1.role ≡ true

stands : (passes : Role → Bool) (vs : List Entry) (number first b : ℕ) → b < bit_count vs → Stands passes vs number first b (bit_name number vs b)
stands passes [] number first b less = absurd (omega arith)
stands passes (v ∷ vs) number first b less = by (nat_lt b (range_width v.1.range)) refl (stands passes vs (suc number) (first + range_width v.1.range) (b - range_width v.1.range))
  where
    width : ℕ
    width = range_width v.1.range

    by : (t : Bool) → nat_lt b (range_width v.1.range) ≡ t → (b - range_width v.1.range < bit_count vs → Stands passes vs (suc number) (first + range_width v.1.range) (b - range_width v.1.range) (bit_name (suc number) vs (b - range_width v.1.range)))
        → Stands passes (v ∷ vs) number first b (if t then record { variable = number; place = b } else bit_name (suc number) vs (b - range_width v.1.range))
    by true e rec = record {
      entry = v;
      at = none number;
      place = grind (arith, nat_tests);
      role = role (passes v.1.role) refl;
    }
      where
        none : (n : ℕ) → slice_get (v ∷ vs) (n - n) ≡ Some v
        none n = let e : n - n ≡ 0 = omega arith in ap (slice_get (v ∷ vs)) e

        role : (t : Bool) → passes v.1.role ≡ t → has_bit ((if t then range_with_len first (range_width v.1.range) else []) ++ bits_from passes (first + range_width v.1.range) vs) (first + b) ≡ true → t ≡ true
        role true f h = refl
        role false f h =
            let small : b < range_width v.1.range = grind (arith, nat_tests, e) in
            absurd (omega (arith, small, bits_least passes (first + range_width v.1.range) vs (first + b) h))
    by false e rec =
        let past : range_width v.1.range ≤ b = grind (arith, nat_tests) in
        let r = rec (omega (arith, past, less)) in
        let bit : BitName = bit_name (suc number) vs (b - range_width v.1.range) in
        let least : suc number ≤ bit.variable = name_least vs (suc number) (b - range_width v.1.range) in
        let one : bit.variable - number ≡ suc (bit.variable - suc number) = omega arith in
        let same : first + range_width v.1.range + (b - range_width v.1.range) ≡ first + b = omega (arith, past) in
        record {
          entry = r.entry;
          at = ap (slice_get (v ∷ vs)) one ∙ r.at;
          place = r.place;
          role = λ h. r.role (ap (has_bit (bits_from passes (first + range_width v.1.range) vs)) same ∙ behind past (passes v.1.role) h);
        }
      where
        behind : range_width v.1.range ≤ b → (t : Bool) → has_bit ((if t then range_with_len first (range_width v.1.range) else []) ++ bits_from passes (first + range_width v.1.range) vs) (first + b) ≡ true
            → has_bit (bits_from passes (first + range_width v.1.range) vs) (first + b) ≡ true
        behind past false h = h
        behind past true h =
            here (or_split (has_bit (range_with_len first (range_width v.1.range)) (first + b)) (has_bit (bits_from passes (first + range_width v.1.range) vs) (first + b))
            (sym (list_any-append (nat_eq (first + b)) (range_with_len first (range_width v.1.range)) (bits_from passes (first + range_width v.1.range) vs)) ∙ h))
          where
            here : (has_bit (range_with_len first (range_width v.1.range)) (first + b) ≡ true) ⊎ (has_bit (bits_from passes (first + range_width v.1.range) vs) (first + b) ≡ true)
                → has_bit (bits_from passes (first + range_width v.1.range) vs) (first + b) ≡ true
            here (inl l) = absurd (omega (arith, past, range_in first (range_width v.1.range) (first + b) l))
            here (inr l) = l

-- a bit below the count is one of a variable
pub record IsBitOf (passes : Role → Bool) (vars : List Entry) (b : ℕ) : Type 0 where
  pub bit : IsBit vars (bit_name 0 vars b)
  pub role : has_bit (bits_from passes 0 vars) b ≡ true → passes bit.entry.1.role ≡ true

pub bit_of : (passes : Role → Bool) (vars : List Entry) (b : ℕ) → b < bit_count vars → IsBitOf passes vars b
bit_of passes vars b less =
    let s = stands passes vars 0 0 b less in
    let same : (bit_name 0 vars b).variable - 0 ≡ (bit_name 0 vars b).variable = omega arith in
    let zero_is : 0 + b ≡ b = omega arith in
    record {
      bit = record { entry = s.entry; stands = ap (slice_get vars) (sym same) ∙ s.at; place = s.place };
      role = λ h. s.role (ap (has_bit (bits_from passes 0 vars)) zero_is ∙ h);
    }

-- the whole ---------------------------------------------------------------------

module _ (name : List ℕ) (vars : List Entry) (w : Work) (fine : IsFineWork vars w) where
  abbrev n : Named
  n = named_of name vars w

  abbrev f : ℕ → BitName
  f = bit_name 0 vars

  abbrev K : List ℕ
  K = kept vars w

  count_names : length n.names ≡ length K
  count_names = length_map f K

  ports_data : KeepsPorts vars w.fresh (clock_of w) (is_data w)
  ports_data = port_is_data vars w (clock_of w) fine.drivers fine.clocks fine.within refl

  -- the clock's bit
  clock_bit : (c : ℕ) → clock_of w ≡ Some c → IsClock vars (f c)
  clock_bit c is =
      let input = clock_is_input vars w c fine.clocks fine.within is in
      let b = bit_of is_input vars c (omega (arith, bits_in is_input 0 vars c input)) in
      record { stands = b.bit; input = b.role input }

  clock_stands : ForSome n.clock (IsClock vars)
  clock_stands c e = by (clock_of w) refl e
    where
      by : (o : Option ℕ) → clock_of w ≡ o → option_map f o ≡ Some c → IsClock vars c
      by None is h = absurd (cc h)
      by (Some k) is h = let same : f k ≡ c = cc h in subst (IsClock vars) same (clock_bit k is)

  -- each net's name is a bit of a variable
  bits_stand : All (IsBit vars) n.names
  bits_stand = All-from_recursion (IsBit vars) n.names (all_images (IsBit vars) f K (all_placed (λ b. IsBit vars (f b)) K (λ i b at. (bit_of is_input vars b (omega (arith, fine.total, kept_below vars w fine b (has_placed K i b at)))).bit)))

  -- and not the clock's
  apart : ForSome n.clock (λ c. All (λ bit. bit ≢ c) n.names)
  apart c e = All-from_recursion (λ bit. bit ≢ c) n.names (all_images (λ bit. bit ≢ c) f K (all_placed (λ b. f b ≢ c) K (λ i b at. by (clock_of w) refl e b (has_placed K i b at))))
    where
      by : (o : Option ℕ) → clock_of w ≡ o → option_map f o ≡ Some c → (b : ℕ) → IsKept vars w b → f b ≢ c
      by None is h b there = absurd (cc h)
      by (Some k) is h b there = λ same.
          let one : b ≡ k = one_name vars b k (same ∙ sym (named h)) in
          let input = clock_is_input vars w k fine.clocks fine.within is in
          let still : origin w k ≡ k = input_origin vars w k fine.drivers (omega (arith, fine.total, bits_in is_input 0 vars k input)) input in
          let data_is : is_data w k ≡ true = subst (λ m. is_data w m ≡ true) one (kept_data vars w fine b there) in
          let clock : is_data w k ≡ not (nat_eq k k) = ap (λ o. not (on_some o false (λ c. nat_eq c (origin w k)))) is ∙ ap (λ m. not (nat_eq k m)) still in
          let own : nat_eq k k ≡ true = grind (arith, nat_tests) in
          cc (data_is, clock, own)
        where
          named : Some (f k) ≡ Some c → f k ≡ c
          named g = cc g

  -- ports by their names
  names_of : (bits : List ℕ) → AllByRecursion (IsKept vars w) bits → map (name_of_net n) (map (place_among K) bits) ≡ map f bits
  names_of [] all = refl
  names_of (b ∷ bits) all =
      let p = bit_placed vars w fine b all.0 in
      let here : name_of_net n (place_among K b) ≡ f b = get_or-map f K (place_among K b) 0 (bit_at 0 0) p.below ∙ ap f p.there in
      let rest = names_of bits all.1 in
      λ i. here i ∷ rest i

  inputs_are : map (name_of_net n) n.netlist.inputs ≡ map f (filter (is_data w) (input_bits vars))
  inputs_are = names_of (filter (is_data w) (input_bits vars)) (inputs_kept vars w fine)

  outputs_are : map (name_of_net n) n.netlist.outputs ≡ map f (filter (is_data w) (output_bits vars))
  outputs_are =
      names_of (output_bits vars) (outputs_kept vars w fine)
      ∙ ap (map f) (sym (filter_all (is_data w) (output_bits vars) (λ b k. ap not (output_is_data vars w b fine.clocks (omega (arith, fine.total, bits_in is_output 0 vars b k)) k))))

  consistent : AllByRecursion HasArity w.gates → IsName name → All IsEntry vars → ArePortsFirst vars → IsConsistent n
  consistent arities module_name entries ports_first = record {
    module_name = module_name;
    entries = entries;
    ports_first = ports_first;
    clock = clock_stands;
    bits = bits_stand;
    apart_from_clock = apart;
    inputs = inputs_are ∙ sym (inputs_named vars (clock_of w) (is_data w) w.fresh (omega (arith, fine.total)) ports_data);
    outputs = outputs_are ∙ sym (outputs_named vars (clock_of w) (is_data w) w.fresh (omega (arith, fine.total)) ports_data);
    ports = ports_few vars w fine;
    drives_nets = subst (λ k. All (λ net. net < k) (driven n.netlist)) (sym count_names) (drives_below vars w fine);
    reads_nets = subst (λ k. All (λ net. net < k) (reads n.netlist)) (sym count_names) (reads_below vars w fine arities);
    arities = arities_kept vars w fine arities;
  }

  clocked : IsSome n.clock ↔ (0 < length n.netlist.flops)
  clocked = by w.flops
    where
      by : (fs : List Clocked) → IsSome (option_map f (first_of (map (origin w) (map (λ (k : Clocked). k.clock) fs))))
          ↔ (0 < length (map (renamed_flop (place_among K)) (map (λ (k : Clocked). record { q = k.q; d = k.d }) fs)))
      by [] = (λ h. absurd (false≢true h), λ h. absurd (omega arith))
      by (k ∷ fs) = (λ h. omega arith, λ h. refl)

  -- what is made denotes a named netlist
  pub named_fits : AllByRecursion HasArity w.gates → IsName name → All IsEntry vars → ArePortsFirst vars → AllPairs (λ v u. v.0 ≢ u.0) vars → IsNamed n
  named_fits arities module_name entries ports_first differ = record {
    consistent = consistent arities module_name entries ports_first;
    netlist = is_netlist vars w fine arities;
    names = count_names ∙ sym (as_many vars w fine);
    alike = names_alike vars w fine n.names refl;
    apart = differ;
    clocked = clocked;
  }
