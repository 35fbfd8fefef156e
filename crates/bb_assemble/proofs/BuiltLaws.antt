-- The parts of the netlist that is built are those of the definition.
use Rattle.std.proofs.Common.{◌≡◌, ◌↔◌, ℕ, ◌+◌, ◌<◌, ◌≤◌, zero, suc, nat_eq, nat_lt, not, ◌&&◌, ◌||◌, List, [], ◌∷◌, ◌++◌, map, filter, length, All, Bool, true, false, cond, Option, Some, None, IsSome, slice_get, if◌then◌else◌, refl, sym, ap, subst, ◌∙◌, arith}
use Rattle.std.proofs.lemmas.Bool.Decides.{nat_tests}
use Rattle.std.proofs.lemmas.Bool.{false≢true}
use Rattle.std.proofs.lemmas.List.Elements.{recursion_from_All, All-from_recursion}
use Rattle.std.proofs.lemmas.List.FromFn.{length-range_with_len}
use Rattle.std.proofs.lemmas.Option.{slice_get_within, get_or_from_slice_get}
use Rattle.std.specs.List.{range_with_len, AllByRecursion}
use Rattle.std.specs.Option.{option_map}
use Rattle.bb_base.specs.declared.variable.BitName.{BitName}
use Rattle.bb_base.specs.Variables.{Entry, is_input, is_output, role_bits, bit_count}
use Rattle.bb_base.specs.Net.{Gate, Flop, renamed_gate, renamed_flop}
use Rattle.bb_base.specs.Named.{Named, IsConsistent}
use Rattle.bb_base.proofs.Lists.{length_map, in_front}
use Rattle.bb_fault.specs.Work.{Work, Clocked}
use Rattle.bb_drive.specs.Nets.{bit_name, has_bit, input_bits, output_bits, nets, driver_fault}
use Rattle.bb_drive.specs.Clock.{clock_of, first_of, origin, clock_fault, is_data}
use Rattle.bb_drive.specs.NamedOf.{kept, place_among, named_of}
use Rattle.bb_drive.specs.Within.{IsWithin, IsGateWithin, IsFlopWithin}
use Rattle.bb_assemble.specs.Assembling.{number_for, is_kept, clock_below, KeepsPorts, IsNumbering, numbered_flop, AreAdded}
use Rattle.bb_base.specs.Building.{with_gates, with_flops, started}
use Rattle.bb_drive.specs.Origins.{is_marked}
use Rattle.bb_assemble.proofs.NumberLaws.{filter_short}
use Rattle.bb_assemble.proofs.RangeLaws.{filter_range}
use Rattle.bb_assemble.proofs.NamedBits.{one_name, has_range}
use Rattle.bb_assemble.proofs.VariableSteps.{bits_below}
use Rattle.bb_drive.proofs.BitBounds.{bits_in}
use Rattle.bb_assemble.proofs.KeptLaws.{is_net, has_filter, port_is_net, port_is_data, clock_is_input, output_is_data}
use Rattle.bb_base.proofs.BooleanLemmas.{or_true}
use Rattle.bb_assemble.proofs.KeptNets.{IsFineWork}
use Rattle.bb_assemble.proofs.NumberedNets.{names_alike}
use Rattle.bb_assemble.proofs.AssembleLaws.{inputs_named, outputs_named, nets_found}

-- kept bits ---------------------------------------------------------------

filter_alike : {X : Type 0} (p q : X → Bool) (P : X → Type 0) → ((x : X) → P x → p x ≡ q x) → (xs : List X) → AllByRecursion P xs → filter p xs ≡ filter q xs
filter_alike p q P e [] h = refl
filter_alike p q P e (x ∷ xs) h =
    let rest = filter_alike p q P e xs h.1 in
    λ i. cond (e x h.0 i) (x ∷ rest i) (rest i)

filter_twice : (p q : ℕ → Bool) (xs : List ℕ) → filter p (filter q xs) ≡ filter (λ x. p x && q x) xs
filter_twice p q [] = refl
filter_twice p q (x ∷ xs) = by (q x) (p x) refl (filter_twice p q xs)
  where
    by : (s t : Bool) → p x ≡ t → filter p (filter q xs) ≡ filter (λ x. p x && q x) xs → filter p (cond s (x ∷ filter q xs) (filter q xs)) ≡ cond (t && s) (x ∷ filter (λ x. p x && q x) xs) (filter (λ x. p x && q x) xs)
    by true true e h = ap (λ t. cond t (x ∷ filter p (filter q xs)) (filter p (filter q xs))) e ∙ ap (λ ks. x ∷ ks) h
    by true false e h = ap (λ t. cond t (x ∷ filter p (filter q xs)) (filter p (filter q xs))) e ∙ h
    by false true e h = h
    by false false e h = h

nets_below : (vars : List Entry) (w : Work) → AllByRecursion (λ b. b < w.fresh) (nets vars w)
nets_below vars w = bits_below (is_net vars w) 0 w.fresh w.fresh (omega arith)

-- the flags say which bits are data
abbrev pub AreFlags : Work → List Bool → Type 0
AreFlags w flags = (b : ℕ) → b < w.fresh → slice_get flags b ≡ Some (is_data w b)

pub same_flags : (w : Work) (flags slice : List Bool) → AreFlags w flags → slice ≡ flags → AreFlags w slice
same_flags w flags slice h e b less = ap (λ fs. slice_get fs b) e ∙ h b less

pub flag_is : (w : Work) (flags : List Bool) (b : ℕ) → AreFlags w flags → b < w.fresh → is_marked flags b ≡ is_data w b
flag_is w flags b h less = get_or_from_slice_get flags b (is_data w b) false (h b less)

-- the flagged nets are those that are kept
kept_is : (vars : List Entry) (w : Work) (flags : List Bool) (bits : List ℕ) → bits ≡ nets vars w → AreFlags w flags → filter (is_marked flags) bits ≡ kept vars w
kept_is vars w flags bits same h =
    ap (filter (is_marked flags)) same ∙ filter_alike (is_marked flags) (is_data w) (λ b. b < w.fresh) (λ b less. flag_is w flags b h less) (nets vars w) (nets_below vars w)

pub all_below : (vars : List Entry) (w : Work) (bits : List ℕ) (fresh : ℕ) → bits ≡ nets vars w → fresh ≡ w.fresh → All (λ b. b < fresh) bits
all_below vars w bits fresh same e =
    subst (All (λ b. b < fresh)) (sym same) (subst (λ n. All (λ b. b < n) (nets vars w)) (sym e) (All-from_recursion (λ b. b < w.fresh) (nets vars w) (nets_below vars w)))

pub all_few : (vars : List Entry) (w : Work) (bits : List ℕ) (fresh : ℕ) → bits ≡ nets vars w → fresh ≡ w.fresh → length bits ≤ fresh
all_few vars w bits fresh same e = omega (arith, e, ap length same, filter_short (is_net vars w) (range_with_len 0 w.fresh), length-range_with_len 0 w.fresh)

-- there is a flag for each bit
flags_past : (flags : List Bool) (said : ℕ → Bool) (n : ℕ) → ((b : ℕ) → b < n → slice_get flags b ≡ Some (said b)) → n ≤ length flags
flags_past flags said zero h = omega arith
flags_past flags said (suc n) h = omega (arith, slice_get_within flags n (said n) (h n (omega arith)))

pub flags_long : (w : Work) (flags : List Bool) (fresh : ℕ) → AreFlags w flags → fresh ≡ w.fresh → fresh ≤ length flags
flags_long w flags fresh h e = omega (arith, e, flags_past flags (is_data w) w.fresh h)

-- a bit has a place exactly where it is among the kept ones
placed : (bits : List ℕ) (b : ℕ) → nat_lt (place_among bits b) (length bits) ≡ has_bit bits b
placed [] b = grind (arith, nat_tests)
placed (x ∷ bits) b = by (nat_eq b x) (placed bits b)
  where
    by : (t : Bool) → nat_lt (place_among bits b) (length bits) ≡ has_bit bits b → nat_lt (cond (not t) (1 + place_among bits b) 0) (suc (length bits)) ≡ (t || has_bit bits b)
    by true h = grind (arith, nat_tests)
    by false h = shifted (place_among bits b) (length bits) ∙ h
      where
        shifted : (a c : ℕ) → nat_lt (1 + a) (suc c) ≡ nat_lt a c
        shifted a c = grind (arith, nat_tests)

-- the numbers of bits, and their count, are those of the kept nets
pub record IsNumbered (vars : List Entry) (w : Work) (numbers : List ℕ) (count : ℕ) : Type 0 where
  pub long : length numbers ≡ w.fresh
  pub count_is : count ≡ length (kept vars w)
  pub each : (b : ℕ) → b < w.fresh → number_for numbers b ≡ place_among (kept vars w) b

pub numbered : (vars : List Entry) (w : Work) (fresh : ℕ) (bits : List ℕ) (flags : List Bool) (items numbers : List ℕ) (count : ℕ) → IsNumbering fresh bits flags items count → numbers ≡ items → fresh ≡ w.fresh → bits ≡ nets vars w → AreFlags w flags
    → IsNumbered vars w numbers count
numbered vars w fresh bits flags items numbers count h e all same said =
    let keep : filter (is_marked flags) bits ≡ kept vars w = kept_is vars w flags bits same said in
    record {
      long = ap length e ∙ h.long ∙ all;
      count_is = h.count_is ∙ ap length keep;
      each = λ b less. ap (λ ks. number_for ks b) e ∙ get_or_from_slice_get items b (place_among (filter (is_marked flags) bits) b) 0 (h.each b (omega (arith, all))) ∙ ap (λ ks. place_among ks b) keep;
    }

keeps_is : (vars : List Entry) (w : Work) (numbers : List ℕ) (count b : ℕ) → IsNumbered vars w numbers count → b < w.fresh → is_kept numbers count b ≡ (is_data w b && is_net vars w b)
keeps_is vars w numbers count b h less =
    (λ i. nat_lt (h.each b less i) (h.count_is i)) ∙ placed (kept vars w) b ∙ has_filter (is_data w) (nets vars w) b
    ∙ ap (λ t. is_data w b && t) (has_filter (is_net vars w) (range_with_len 0 w.fresh) b ∙ ap (λ t. is_net vars w b && t) (has_range 0 w.fresh b (omega arith) (omega arith)) ∙ and_true (is_net vars w b))
  where
    and_true : (t : Bool) → (t && true) ≡ t
    and_true true = refl
    and_true false = refl

-- what is kept by numbers are the kept nets
kept_again : (vars : List Entry) (w : Work) (numbers : List ℕ) (count : ℕ) → IsNumbered vars w numbers count → filter (is_kept numbers count) (range_with_len 0 w.fresh) ≡ kept vars w
kept_again vars w numbers count h =
    filter_range (is_kept numbers count) (λ b. is_data w b && is_net vars w b) 0 w.fresh (λ b low high. keeps_is vars w numbers count b h (omega arith)) ∙ sym (filter_twice (is_data w) (is_net vars w) (range_with_len 0 w.fresh))

and_left : (a b : Bool) → b ≡ true → (a && b) ≡ a
and_left true true h = refl
and_left true false h = cc
and_left false b h = refl

pub keeps_ports : (vars : List Entry) (w : Work) (clock : Option ℕ) (numbers : List ℕ) (count : ℕ) → driver_fault vars w ≡ None → clock_fault vars w ≡ None → IsWithin w → clock ≡ clock_of w → IsNumbered vars w numbers count
    → KeepsPorts vars (length numbers) clock (is_kept numbers count)
keeps_ports vars w clock numbers count drivers clocks within clock_is h b less port =
    keeps_is vars w numbers count b h (omega (arith, h.long)) ∙ and_left (is_data w b) (is_net vars w b) (port_is_net vars w b port) ∙ port_is_data vars w clock drivers clocks within clock_is b (omega (arith, h.long)) port

-- the names that stand are those of the kept nets
pub names_kept : (vars stand : List Entry) (w : Work) (names : List BitName) (numbers : List ℕ) (count : ℕ) → IsNumbered vars w numbers count → stand ≡ vars → bit_count vars ≡ length numbers
    → names ≡ map (bit_name 0 vars) (filter (is_kept numbers count) (range_with_len 0 (bit_count stand))) → names ≡ map (bit_name 0 vars) (kept vars w)
names_kept vars stand w names numbers count h all total e =
    e ∙ ap (λ k. map (bit_name 0 vars) (filter (is_kept numbers count) (range_with_len 0 k))) (ap bit_count all ∙ total ∙ h.long) ∙ ap (map (bit_name 0 vars)) (kept_again vars w numbers count h)

pub names_count : (vars : List Entry) (w : Work) (names : List BitName) (numbers : List ℕ) (count : ℕ) → IsNumbered vars w numbers count → names ≡ map (bit_name 0 vars) (kept vars w) → count ≡ length names
names_count vars w names numbers count h e = h.count_is ∙ sym (length_map (bit_name 0 vars) (kept vars w)) ∙ sym (ap length e)

-- gates and flip-flops ------------------------------------------------------

map_below : (f g : ℕ → ℕ) (n : ℕ) → ((b : ℕ) → b < n → f b ≡ g b) → (xs : List ℕ) → AllByRecursion (λ b. b < n) xs → map f xs ≡ map g xs
map_below f g n e [] h = refl
map_below f g n e (x ∷ xs) h = λ i. e x h.0 i ∷ map_below f g n e xs h.1 i

gates_same : (flag data_is : ℕ → Bool) (f g : ℕ → ℕ) (n : ℕ) → ((b : ℕ) → b < n → flag b ≡ data_is b) → ((b : ℕ) → b < n → f b ≡ g b) → (gates : List (Gate ℕ)) → AllByRecursion (IsGateWithin n) gates
    → map (renamed_gate f) (filter (λ k. flag k.out) gates) ≡ map (renamed_gate g) (filter (λ k. data_is k.out) gates)
gates_same flag data_is f g n d e [] h = refl
gates_same flag data_is f g n d e (k ∷ gates) h =
    ap (λ t. map (renamed_gate f) (cond t (k ∷ filter (λ k. flag k.out) gates) (filter (λ k. flag k.out) gates))) (d k.out h.0.out) ∙ by (data_is k.out) (gates_same flag data_is f g n d e gates h.1)
  where
    by : (t : Bool) → map (renamed_gate f) (filter (λ k. flag k.out) gates) ≡ map (renamed_gate g) (filter (λ k. data_is k.out) gates)
        → map (renamed_gate f) (cond t (k ∷ filter (λ k. flag k.out) gates) (filter (λ k. flag k.out) gates)) ≡ map (renamed_gate g) (cond t (k ∷ filter (λ k. data_is k.out) gates) (filter (λ k. data_is k.out) gates))
    by true rec =
        let ins : map f k.ins ≡ map g k.ins = map_below f g n e k.ins (recursion_from_All (λ b. b < n) k.ins h.0.ins) in
        λ i. record { op = k.op; out = e k.out h.0.out i; ins = ins i } ∷ rec i
    by false rec = rec

flops_same : (f g : ℕ → ℕ) (n : ℕ) → ((b : ℕ) → b < n → f b ≡ g b) → (flops : List Clocked) → AllByRecursion (IsFlopWithin n) flops → map (numbered_flop f) flops ≡ map (renamed_flop g) (map (λ k. record { q = k.q; d = k.d }) flops)
flops_same f g n e [] h = refl
flops_same f g n e (k ∷ flops) h =
    let rest = flops_same f g n e flops h.1 in
    λ i. record { q = e k.q h.0.q i; d = e k.d h.0.d i } ∷ rest i

-- the whole -------------------------------------------------------------------

-- the clock's bit stands among the variables
clock_stands : (vars : List Entry) (w : Work) (clock : Option ℕ) (now : Option BitName) → clock_fault vars w ≡ None → IsWithin w → clock ≡ clock_of w → now ≡ clock_below vars (bit_count vars) clock → now ≡ option_map (bit_name 0 vars) (clock_of w)
clock_stands vars w clock now clocks within clock_is h = h ∙ ap (clock_below vars (bit_count vars)) clock_is ∙ by (clock_of w) refl
  where
    by : (o : Option ℕ) → clock_of w ≡ o → clock_below vars (bit_count vars) o ≡ option_map (bit_name 0 vars) o
    by None e = refl
    by (Some c) e =
        let less : c < bit_count vars = omega (arith, bits_in is_input 0 vars c (clock_is_input vars w c clocks within e)) in
        let test : nat_lt c (bit_count vars) ≡ true = grind (arith, nat_tests) in
        ap (λ (t : Bool). if t then Some (bit_name 0 vars c) else None) test

-- there is a clock exactly where there is a flip-flop
clock_is_some : (vars : List Entry) (w : Work) (clock : Option BitName) (flops : List (Flop ℕ)) (number : ℕ → ℕ) → clock ≡ option_map (bit_name 0 vars) (clock_of w) → flops ≡ map (numbered_flop number) w.flops → IsSome clock ↔ (0 < length flops)
clock_is_some vars w clock flops number c f = subst (λ o. IsSome o ↔ (0 < length flops)) (sym c) (subst (λ fs. IsSome (option_map (bit_name 0 vars) (clock_of w)) ↔ (0 < length fs)) (sym f) (by w.flops))
  where
    by : (fs : List Clocked) → IsSome (option_map (bit_name 0 vars) (first_of (map (origin w) (map (λ k. k.clock) fs)))) ↔ (0 < length (map (numbered_flop number) fs))
    by [] = (λ h. absurd (false≢true h), λ h. absurd (omega arith))
    by (k ∷ fs) = (λ h. omega arith, λ h. refl)

-- a filter that all pass
pub filter_all : (p : ℕ → Bool) (xs : List ℕ) → ((b : ℕ) → has_bit xs b ≡ true → p b ≡ true) → filter p xs ≡ xs
filter_all p [] h = refl
filter_all p (x ∷ xs) h =
    let own : nat_eq x x ≡ true = grind (arith, nat_tests) in
    let here : p x ≡ true = h x (ap (λ t. t || has_bit xs x) own) in
    let rest : filter p xs ≡ xs = filter_all p xs (λ b k. h b (ap (λ t. nat_eq b x || t) k ∙ or_true (nat_eq b x))) in
    λ i. cond (here i) (x ∷ rest i) (rest i)

-- the parts of what is built in the end
pub record HasParts (name : List ℕ) (vars : List Entry) (clock : Option ℕ) (names : List BitName) (gates : List (Gate ℕ)) (flops : List (Flop ℕ)) (n : Named) : Type 0 where
  pub module_is : n.module_name ≡ name
  pub variables_are : n.variables ≡ vars
  pub clock_is : n.clock ≡ clock_below vars (bit_count vars) clock
  pub names_are : n.names ≡ names
  pub gates_are : n.netlist.gates ≡ gates
  pub flops_are : n.netlist.flops ≡ flops

pub parts_of : (name : List ℕ) (vars : List Entry) (clock : Option ℕ) (keeps : ℕ → Bool) (gates : List (Gate ℕ)) (flops : List (Flop ℕ)) (first second third last : Named) → first ≡ started name → second.variables ≡ vars → AreAdded first clock keeps vars second
    → third ≡ with_gates second gates → last ≡ with_flops third flops → HasParts name vars clock second.names gates flops last
parts_of name vars clock keeps gates flops first second third last a b stands c d = record {
  module_is = ap (λ (n : Named). n.module_name) d ∙ ap (λ (n : Named). n.module_name) c ∙ stands.module_name ∙ ap (λ (n : Named). n.module_name) a;
  variables_are = ap (λ (n : Named). n.variables) d ∙ ap (λ (n : Named). n.variables) c ∙ b;
  clock_is = ap (λ (n : Named). n.clock) d ∙ ap (λ (n : Named). n.clock) c ∙ stands.clock_is ∙ ap (λ vs. clock_below vars (bit_count vs) clock) b;
  names_are = ap (λ (n : Named). n.names) d ∙ ap (λ (n : Named). n.names) c;
  gates_are = ap (λ (n : Named). n.netlist.gates) d ∙ ap (λ (n : Named). n.netlist.gates) c ∙ ap (λ gs. gs ++ gates) (stands.gates ∙ ap (λ (n : Named). n.netlist.gates) a);
  flops_are = ap (λ (n : Named). n.netlist.flops) d ∙ ap (λ (n : Named). n.netlist.flops ++ flops) c ∙ ap (λ fs. fs ++ flops) (stands.flops ∙ ap (λ (n : Named). n.netlist.flops) a);
}

-- what is built is what the definition says
built : (name : List ℕ) (vars : List Entry) (w : Work) (clock : Option ℕ) (flags : List Bool) (numbers : List ℕ) (count : ℕ) (gates : List (Gate ℕ)) (flops : List Clocked) (names : List BitName) (n : Named) → IsFineWork vars w
    → clock ≡ clock_of w → AreFlags w flags → IsNumbered vars w numbers count → gates ≡ w.gates → flops ≡ w.flops → names ≡ map (bit_name 0 vars) (kept vars w)
    → HasParts name vars clock names (map (renamed_gate (number_for numbers)) (filter (λ g. is_marked flags g.out) gates)) (map (numbered_flop (number_for numbers)) flops) n → IsConsistent n → n ≡ named_of name vars w
built name vars w clock flags numbers count gates flops names n fine clock_is said h gates_in flops_in named parts fits =
    let f : ℕ → BitName = bit_name 0 vars in
    let K : List ℕ = kept vars w in
    let clock_so : n.clock ≡ option_map f (clock_of w) = clock_stands vars w clock n.clock fine.clocks fine.within clock_is parts.clock_is in
    let names_so : n.names ≡ map f K = parts.names_are ∙ named in
    let ports : KeepsPorts vars w.fresh (clock_of w) (is_data w) = port_is_data vars w (clock_of w) fine.drivers fine.clocks fine.within refl in
    let alike = names_alike vars w fine n.names names_so in
    let below_in = recursion_from_All (λ net. net < length n.names) n.netlist.inputs (in_front (λ net. net < length n.names) n.netlist.inputs _ fits.drives_nets) in
    let below_out = recursion_from_All (λ net. net < length n.names) n.netlist.outputs (in_front (λ net. net < length n.names) n.netlist.outputs _ fits.reads_nets) in
    let inputs : n.netlist.inputs ≡ map (place_among K) (filter (is_data w) (input_bits vars)) =
    nets_found n f K n.netlist.inputs (filter (is_data w) (input_bits vars)) (one_name vars) names_so alike below_in
    (fits.inputs ∙ (λ i. role_bits is_input (clock_so i) 0 (parts.variables_are i)) ∙ inputs_named vars (clock_of w) (is_data w) w.fresh (omega (arith, fine.total)) ports) in
    let all_data : filter (is_data w) (output_bits vars) ≡ output_bits vars =
    filter_all (is_data w) (output_bits vars) (λ b k. ap not (output_is_data vars w b fine.clocks (omega (arith, fine.total, bits_in is_output 0 vars b k)) k)) in
    let outputs : n.netlist.outputs ≡ map (place_among K) (output_bits vars) =
    nets_found n f K n.netlist.outputs (output_bits vars) (one_name vars) names_so alike below_out
    (fits.outputs ∙ (λ i. role_bits is_output (clock_so i) 0 (parts.variables_are i)) ∙ outputs_named vars (clock_of w) (is_data w) w.fresh (omega (arith, fine.total)) ports ∙ ap (map f) all_data) in
    let gates_so : n.netlist.gates ≡ map (renamed_gate (place_among K)) (filter (λ g. is_data w g.out) w.gates) =
    parts.gates_are ∙ ap (λ gs. map (renamed_gate (number_for numbers)) (filter (λ g. is_marked flags g.out) gs)) gates_in
    ∙ gates_same (is_marked flags) (is_data w) (number_for numbers) (place_among K) w.fresh (λ b less. flag_is w flags b said less) h.each w.gates (recursion_from_All (IsGateWithin w.fresh) w.gates fine.within.gates) in
    let flops_so : n.netlist.flops ≡ map (renamed_flop (place_among K)) (map (λ k. record { q = k.q; d = k.d }) w.flops) =
    parts.flops_are ∙ ap (map (numbered_flop (number_for numbers))) flops_in ∙ flops_same (number_for numbers) (place_among K) w.fresh h.each w.flops (recursion_from_All (IsFlopWithin w.fresh) w.flops fine.within.flops) in
    λ i. record {
      module_name = parts.module_is i;
      variables = parts.variables_are i;
      clock = clock_so i;
      names = names_so i;
      netlist = record { inputs = inputs i; outputs = outputs i; gates = gates_so i; flops = flops_so i };
    }

-- and so is what the calls of a builder make
pub assembled : (name : List ℕ) (vars : List Entry) (w : Work) (clock : Option ℕ) (flags : List Bool) (numbers : List ℕ) (count : ℕ) (gates : List (Gate ℕ)) (flops : List Clocked) (first second third last : Named) → IsFineWork vars w
    → clock ≡ clock_of w → AreFlags w flags → IsNumbered vars w numbers count → gates ≡ w.gates → flops ≡ w.flops → first ≡ started name → second.variables ≡ vars → AreAdded first clock (is_kept numbers count) vars second
    → third ≡ with_gates second (map (renamed_gate (number_for numbers)) (filter (λ g. is_marked flags g.out) gates)) → last ≡ with_flops third (map (numbered_flop (number_for numbers)) flops) → IsConsistent last → last ≡ named_of name vars w
assembled name vars w clock flags numbers count gates flops first second third last fine clock_is said h gates_in flops_in a b stands c d fits =
    built name vars w clock flags numbers count gates flops second.names last fine clock_is said h gates_in flops_in (names_kept vars second.variables w second.names numbers count h b (fine.total ∙ sym h.long) stands.names)
    (parts_of name vars clock (is_kept numbers count) (map (renamed_gate (number_for numbers)) (filter (λ g. is_marked flags g.out) gates)) (map (numbered_flop (number_for numbers)) flops) first second third last a b stands c d) fits

-- there is a clock exactly where there is a flip-flop
pub clocked : (name : List ℕ) (vars : List Entry) (w : Work) (clock : Option ℕ) (names : List BitName) (gates : List (Gate ℕ)) (flops : List Clocked) (number : ℕ → ℕ) (n : Named) → clock_fault vars w ≡ None → IsWithin w → clock ≡ clock_of w → flops ≡ w.flops
    → HasParts name vars clock names gates (map (numbered_flop number) flops) n → IsSome n.clock ↔ (0 < length n.netlist.flops)
clocked name vars w clock names gates flops number n clocks within clock_is flops_in parts =
    clock_is_some vars w n.clock n.netlist.flops number (clock_stands vars w clock n.clock clocks within clock_is parts.clock_is) (parts.flops_are ∙ ap (map (numbered_flop number)) flops_in)
