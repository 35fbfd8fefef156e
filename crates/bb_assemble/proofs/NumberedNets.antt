-- The netlist by numbers of kept nets: each number below their count is driven once, and no other stands.
use Rattle.std.proofs.Common.{◌≡◌, ◌≢◌, ℕ, ◌+◌, ◌<◌, ◌≤◌, ◌==◌, zero, suc, nat_eq, nat_lt, not, ◌||◌, List, [], ◌∷◌, ◌++◌, map, filter, length, All, AllPairs, Bool, true, false, cond, get_or, if◌then◌else◌, refl, sym, ap, subst, ◌∙◌, arith}
use Rattle.std.specs.Prelude.{count_by}
use Rattle.std.proofs.lemmas.Bool.Decides.{nat_tests}
use Rattle.std.proofs.lemmas.List.Elements.{All-from_recursion}
use Rattle.std.proofs.lemmas.List.Sums.{position_or_len_is}
use Rattle.std.proofs.lemmas.Option.{slice_get-get_or}
use Rattle.std.specs.List.{AllByRecursion, range_with_len}
use Rattle.bb_base.specs.declared.variable.BitName.{BitName}
use Rattle.bb_base.specs.declared.variable.Role.{Role}
use Rattle.bb_base.specs.declared.variable.Role.TheVariants.{Input, Output, Wire}
use Rattle.bb_base.specs.Variables.{Entry, is_input, is_output, range_width}
use Rattle.bb_base.specs.Operators.{IsArity}
use Rattle.bb_base.proofs.Distinct.{Distinct}
use Rattle.bb_base.proofs.Lists.{map_join, map_twice, length_map, all_join, all_front}
use Rattle.bb_base.specs.Net.{Gate, Flop, Netlist, renamed_gate, driven, reads, times, HasArity, IsNetlist}
use Rattle.bb_base.proofs.Renamed.{driven_renamed, reads_renamed}
use Rattle.bb_base.proofs.TimesLemmas.{times_join, times_head, times_past, times_range, times_range_before, once_distinct, length_once}
use Rattle.bb_fault.proofs.Parted.{both-first, both-second}
use Rattle.bb_fault.specs.Work.{Work, Clocked}
use Rattle.bb_drive.specs.Nets.{bit_name, bits_from, input_bits, bits_driven, has_bit, nets}
use Rattle.bb_drive.specs.Clock.{is_data}
use Rattle.bb_drive.specs.NamedOf.{kept, by_bits, place_among, netlist_by_number}
use Rattle.bb_drive.proofs.BitBounds.{range_in}
use Rattle.std.proofs.lemmas.List.{get_or-map}
use Rattle.bb_assemble.proofs.NamedBits.{one_name}
use Rattle.bb_assemble.proofs.KeptLaws.{has_filter, is_net, counted}
use Rattle.bb_assemble.proofs.KeptNets.{all_images, all_filtered, at_place, has_placed, IsFineWork, IsKept, few_drivers, some_driver, parts_counted, driven_kept, outputs_kept, reads_kept}

-- how often bits stand ---------------------------------------------------------

pub times_by : (b : ℕ) (xs : List ℕ) → times b xs ≡ count_by (nat_eq b) xs
times_by b xs = ap (λ p. count_by p xs) (λ i m. same m i)
  where
    same : (m : ℕ) → (m == b) ≡ nat_eq b m
    same m = grind (arith, nat_tests)

-- a bit that passes a test stands as often among those that do
times_pass : (p : ℕ → Bool) (b : ℕ) (xs : List ℕ) → p b ≡ true → times b (filter p xs) ≡ times b xs
times_pass p b [] h = refl
times_pass p b (x ∷ xs) h = by (p x) refl (x == b) refl (times_pass p b xs h)
  where
    by : (s : Bool) → p x ≡ s → (t : Bool) → (x == b) ≡ t → times b (filter p xs) ≡ times b xs → times b (cond s (x ∷ filter p xs) (filter p xs)) ≡ times b (x ∷ xs)
    by true e t f rec = omega (arith, times_head b x (filter p xs), times_head b x xs, rec)
    by false e true f rec =
        let same : x ≡ b = grind (arith, nat_tests) in
        absurd (cc (ap p same, e, h))
    by false e false f rec =
        let none : ◌≡◌ {A = ℕ} (cond (x == b) 1 0) 0 = ap (λ t. cond t 1 0) f in
        omega (arith, times_head b x xs, none, rec)

times_fewer : (p : ℕ → Bool) (b : ℕ) (xs : List ℕ) → times b (filter p xs) ≤ times b xs
times_fewer p b [] = omega arith
times_fewer p b (x ∷ xs) = by (p x) (times_fewer p b xs)
  where
    by : (s : Bool) → times b (filter p xs) ≤ times b xs → times b (cond s (x ∷ filter p xs) (filter p xs)) ≤ times b (x ∷ xs)
    by true rec = omega (arith, times_head b x (filter p xs), times_head b x xs, rec)
    by false rec = omega (arith, times_head b x xs, rec)

outs_filtered : (p : ℕ → Bool) (gates : List (Gate ℕ)) → map (λ (g : Gate ℕ). g.out) (filter (λ (g : Gate ℕ). p g.out) gates) ≡ filter p (map (λ (g : Gate ℕ). g.out) gates)
outs_filtered p [] = refl
outs_filtered p (g ∷ gates) = by (p g.out) (outs_filtered p gates)
  where
    by : (t : Bool) → map (λ (k : Gate ℕ). k.out) (filter (λ (k : Gate ℕ). p k.out) gates) ≡ filter p (map (λ (k : Gate ℕ). k.out) gates)
        → map (λ (k : Gate ℕ). k.out) (cond t (g ∷ filter (λ (k : Gate ℕ). p k.out) gates) (filter (λ (k : Gate ℕ). p k.out) gates)) ≡ cond t (g.out ∷ filter p (map (λ (k : Gate ℕ). k.out) gates)) (filter p (map (λ (k : Gate ℕ). k.out) gates))
    by true rec = ap (λ ks. g.out ∷ ks) rec
    by false rec = rec

-- ports stand once -----------------------------------------------------------------

range_after : (b from n : ℕ) → from + n ≤ b → times b (range_with_len from n) ≡ 0
range_after b from zero h = refl
range_after b from (suc n) h =
    let rest = range_after b (from + 1) n (omega arith) in
    let one = times_head b from (range_with_len (from + 1) n) in
    grind (arith, nat_tests)

-- a bit stands so often in two lists: at most once, and not at all before this number
abbrev Once : ℕ → ℕ → ℕ → ℕ → Type 0
Once b first x y = (x + y ≤ 1) × (b < first → x + y ≡ 0)

-- a bit is that of an input or an output at most once
ports_once : (b first : ℕ) (vs : List Entry) → Once b first (times b (bits_from is_input first vs)) (times b (bits_from is_output first vs))
ports_once b first [] = (omega arith, λ less. refl)
ports_once b first (v ∷ vs) = by v.1.role (ports_once b (first + range_width v.1.range) vs)
  where
    here : List ℕ
    here = range_with_len first (range_width v.1.range)

    ins : List ℕ
    ins = bits_from is_input (first + range_width v.1.range) vs

    outs : List ℕ
    outs = bits_from is_output (first + range_width v.1.range) vs

    port : (k : ℕ) → Once b (first + range_width v.1.range) (times b ins) (times b outs) → k ≡ times b (range_with_len first (range_width v.1.range)) + (times b ins + times b outs) → (k ≤ 1) × (b < first → k ≡ 0)
    port k rest is = (go (nat_lt b (first + range_width v.1.range)) refl, λ less. omega (arith, is, times_range_before b first (range_width v.1.range) less, rest.1 (omega arith)))
      where
        go : (t : Bool) → nat_lt b (first + range_width v.1.range) ≡ t → k ≤ 1
        go true e = omega (arith, is, times_range b first (range_width v.1.range), rest.1 (grind (arith, nat_tests)))
        go false e = omega (arith, is, range_after b first (range_width v.1.range) (grind (arith, nat_tests)), rest.0)

    by : (r : Role) → Once b (first + range_width v.1.range) (times b (bits_from is_input (first + range_width v.1.range) vs)) (times b (bits_from is_output (first + range_width v.1.range) vs))
        → Once b first (times b ((if is_input r then range_with_len first (range_width v.1.range) else []) ++ bits_from is_input (first + range_width v.1.range) vs))
        (times b ((if is_output r then range_with_len first (range_width v.1.range) else []) ++ bits_from is_output (first + range_width v.1.range) vs))
    by Input rest = port (times b (range_with_len first (range_width v.1.range) ++ bits_from is_input (first + range_width v.1.range) vs) + times b (bits_from is_output (first + range_width v.1.range) vs)) rest
        (omega (arith, times_join b (range_with_len first (range_width v.1.range)) (bits_from is_input (first + range_width v.1.range) vs)))
    by Output rest = port (times b (bits_from is_input (first + range_width v.1.range) vs) + times b (range_with_len first (range_width v.1.range) ++ bits_from is_output (first + range_width v.1.range) vs)) rest
        (omega (arith, times_join b (range_with_len first (range_width v.1.range)) (bits_from is_output (first + range_width v.1.range) vs)))
    by Wire rest = (rest.0, λ less. rest.1 (omega arith))

-- places among bits -------------------------------------------------------------------

-- the place of a bit that is among them has it
pub record HasPlace (bits : List ℕ) (b : ℕ) : Type 0 where
  pub below : place_among bits b < length bits
  pub there : get_or bits (place_among bits b) 0 ≡ b

has_place : (bits : List ℕ) (b : ℕ) → has_bit bits b ≡ true → HasPlace bits b
has_place [] b h = cc
has_place (x ∷ bits) b h = by (nat_eq b x) refl h (has_place bits b)
  where
    more : (place : ℕ) → get_or (x ∷ bits) (1 + place) 0 ≡ get_or bits place 0
    more place = let e : 1 + place ≡ suc place = omega arith in ap (λ k. get_or (x ∷ bits) k 0) e

    placed : (t : Bool) → nat_eq b x ≡ t → (t || has_bit bits b) ≡ true → (has_bit bits b ≡ true → HasPlace bits b) → (cond (not t) (1 + place_among bits b) 0 < suc (length bits)) × (get_or (x ∷ bits) (cond (not t) (1 + place_among bits b) 0) 0 ≡ b)
    placed true e k rec = (omega arith, grind (arith, nat_tests))
    placed false e k rec = let r = rec k in (omega (arith, r.below), more (place_among bits b) ∙ r.there)

    by : (t : Bool) → nat_eq b x ≡ t → (t || has_bit bits b) ≡ true → (has_bit bits b ≡ true → HasPlace bits b) → HasPlace (x ∷ bits) b
    by t e k rec =
        let p = placed t e k rec in
        let q : cond (not t) (1 + place_among bits b) 0 ≡ place_among (x ∷ bits) b = ap (λ u. cond (not u) (1 + place_among bits b) 0) (sym e) in
        record { below = subst (λ n. n < suc (length bits)) q p.0; there = subst (λ n. get_or (x ∷ bits) n 0 ≡ b) q p.1 }

-- no two bits have one place
one_place : (bits : List ℕ) (a b : ℕ) → has_bit bits a ≡ true → has_bit bits b ≡ true → place_among bits a ≡ place_among bits b → a ≡ b
one_place bits a b h k e = sym (has_place bits a h).there ∙ ap (λ n. get_or bits n 0) e ∙ (has_place bits b k).there

-- items of a list without repetitions differ
pub distinct_apart : {X : Type 0} (xs : List X) → Distinct xs → (i j : ℕ) (d : X) → i < j → j < length xs → get_or xs i d ≢ get_or xs j d
distinct_apart [] once i j d less within = absurd (omega arith)
distinct_apart (x ∷ xs) once zero zero d less within = absurd (omega arith)
distinct_apart (x ∷ xs) once zero (suc j) d less within = λ same. All-from_recursion (λ y. y ≢ x) xs once.0 j d (omega arith) (sym same)
distinct_apart (x ∷ xs) once (suc i) zero d less within = absurd (omega arith)
distinct_apart (x ∷ xs) once (suc i) (suc j) d less within = distinct_apart xs once.1 i j d (omega arith) (omega arith)

-- the place of the bit at a place
place_back : (bits : List ℕ) (n : ℕ) → Distinct bits → n < length bits → place_among bits (get_or bits n 0) ≡ n
place_back bits n once within =
    position_or_len_is (nat_eq (get_or bits n 0)) bits n 0 (omega (arith, within)) (λ k before. differs (get_or bits n 0) (get_or bits k 0) (λ same. distinct_apart bits once k n 0 before within (sym same)))
    (λ less. equals (get_or bits n 0))
  where
    differs : (x y : ℕ) → x ≢ y → nat_eq x y ≡ false
    differs x y h = by (nat_eq x y) refl
      where
        by : (t : Bool) → nat_eq x y ≡ t → t ≡ false
        by true t = absurd (h (grind (arith, nat_tests)))
        by false t = refl

    equals : (x : ℕ) → nat_eq x x ≡ true
    equals x = grind (arith, nat_tests)

-- a bit stands as often as its place
times_placed : (bits : List ℕ) (b : ℕ) (xs : List ℕ) → has_bit bits b ≡ true → AllByRecursion (λ x. has_bit bits x ≡ true) xs → times (place_among bits b) (map (place_among bits) xs) ≡ times b xs
times_placed bits b [] h all = refl
times_placed bits b (x ∷ xs) h all = by (x == b) refl (place_among bits x == place_among bits b) refl (times_placed bits b xs h all.1)
  where
    by : (s : Bool) → (x == b) ≡ s → (t : Bool) → (place_among bits x == place_among bits b) ≡ t → times (place_among bits b) (map (place_among bits) xs) ≡ times b xs
        → times (place_among bits b) (map (place_among bits) (x ∷ xs)) ≡ times b (x ∷ xs)
    by true e true f rec = omega (arith, times_head (place_among bits b) (place_among bits x) (map (place_among bits) xs), times_head b x xs, rec, both true e f)
      where
        both : (t : Bool) → (x == b) ≡ t → (place_among bits x == place_among bits b) ≡ t → ◌≡◌ {A = ℕ} (cond (place_among bits x == place_among bits b) 1 0) (cond (x == b) 1 0)
        both t e f = ap (λ u. cond u 1 0) (f ∙ sym e)
    by false e false f rec = omega (arith, times_head (place_among bits b) (place_among bits x) (map (place_among bits) xs), times_head b x xs, rec, both false e f)
      where
        both : (t : Bool) → (x == b) ≡ t → (place_among bits x == place_among bits b) ≡ t → ◌≡◌ {A = ℕ} (cond (place_among bits x == place_among bits b) 1 0) (cond (x == b) 1 0)
        both t e f = ap (λ u. cond u 1 0) (f ∙ sym e)
    by true e false f rec =
        let same : x ≡ b = grind (arith, nat_tests) in
        let places : place_among bits x ≡ place_among bits b = ap (place_among bits) same in
        absurd (grind (arith, nat_tests, f, places))
    by false e true f rec =
        let places : place_among bits x ≡ place_among bits b = grind (arith, nat_tests, f) in
        let same : x ≡ b = one_place bits x b all.0 h places in
        absurd (grind (arith, nat_tests, e, same))

module _ (vars : List Entry) (w : Work) (fine : IsFineWork vars w) where
  abbrev K : List ℕ
  K = kept vars w

  abbrev N : Netlist ℕ
  N = by_bits vars w

  abbrev P : ℕ → ℕ
  P = place_among (kept vars w)

  pub kept_data : (b : ℕ) → IsKept vars w b → is_data w b ≡ true
  kept_data b h = both-first (is_data w b) (has_bit (nets vars w) b) (sym (has_filter (is_data w) (nets vars w) b) ∙ h)

  kept_among : (b : ℕ) → IsKept vars w b → has_bit (nets vars w) b ≡ true
  kept_among b h = both-second (is_data w b) (has_bit (nets vars w) b) (sym (has_filter (is_data w) (nets vars w) b) ∙ h)

  kept_net : (b : ℕ) → IsKept vars w b → is_net vars w b ≡ true
  kept_net b h = both-first (is_net vars w b) (has_bit (range_with_len 0 w.fresh) b) (sym (has_filter (is_net vars w) (range_with_len 0 w.fresh) b) ∙ kept_among b h)

  pub kept_below : (b : ℕ) → IsKept vars w b → b < w.fresh
  kept_below b h =
      omega (arith, range_in 0 w.fresh b (both-second (is_net vars w b) (has_bit (range_with_len 0 w.fresh) b) (sym (has_filter (is_net vars w) (range_with_len 0 w.fresh) b) ∙ kept_among b h)))

  pub kept_distinct : Distinct K
  kept_distinct = once_distinct K (λ b. omega (arith, times_fewer (is_data w) b (nets vars w), times_fewer (is_net vars w) b (range_with_len 0 w.fresh), times_range b 0 w.fresh))

  -- each kept bit is driven once
  driven_once : (b : ℕ) → IsKept vars w b → times b (driven N) ≡ 1
  driven_once b h =
      let data_is = kept_data b h in
      let outs : List ℕ = map (λ (g : Gate ℕ). g.out) w.gates in
      let qs : List ℕ = map (λ (f : Clocked). f.q) w.flops in
      let left = filter (is_data w) (input_bits vars) in
      let gates = map (λ (g : Gate ℕ). g.out) (filter (λ (g : Gate ℕ). is_data w g.out) w.gates) in
      let flops = map (λ (f : Flop ℕ). f.q) (map (λ (f : Clocked). record { q = f.q; d = f.d }) w.flops) in
      let one = times_join b left (gates ++ flops) in
      let two = times_join b gates flops in
      let ins_same : times b left ≡ count_by (nat_eq b) (input_bits vars) = times_pass (is_data w) b (input_bits vars) data_is ∙ times_by b (input_bits vars) in
      let outs_same : times b gates ≡ count_by (nat_eq b) outs = ap (times b) (outs_filtered (is_data w) w.gates) ∙ times_pass (is_data w) b outs data_is ∙ times_by b outs in
      let qs_same : times b flops ≡ count_by (nat_eq b) qs = ap (times b) (map_twice (λ (f : Flop ℕ). f.q) (λ (f : Clocked). record { q = f.q; d = f.d }) w.flops) ∙ times_by b qs in
      let all = parts_counted vars w fine b in
      let few = few_drivers vars w fine b (kept_below b h) (kept_net b h) in
      let some = counted b (bits_driven vars w) (some_driver vars w fine b (kept_below b h) (kept_net b h)) in
      omega (arith, one, two, ins_same, outs_same, qs_same, all, few, some)

  -- each number below the count is that of a kept bit
  bit_of : (net : ℕ) → net < length K → IsKept vars w (get_or K net 0) × (P (get_or K net 0) ≡ net)
  bit_of net less = (has_placed K net (get_or K net 0) (slice_get-get_or K net 0 less), place_back K net kept_distinct less)

  below_of : (bits : List ℕ) → AllByRecursion (IsKept vars w) bits → AllByRecursion (λ net. net < length K) (map P bits)
  below_of bits all = all_images (λ net. net < length K) P bits (each bits all)
    where
      each : (bs : List ℕ) → AllByRecursion (IsKept vars w) bs → AllByRecursion (λ b. P b < length K) bs
      each [] h = tt
      each (b ∷ bs) h = ((has_place K b h.0).below, each bs h.1)

  pub drives_below : All (λ net. net < length K) (driven (netlist_by_number vars w))
  drives_below = All-from_recursion (λ net. net < length K) (driven (netlist_by_number vars w)) (subst (AllByRecursion (λ net. net < length K)) (sym (driven_renamed P N)) (below_of (driven N) (driven_kept vars w fine)))

  pub reads_below : AllByRecursion HasArity w.gates → All (λ net. net < length K) (reads (netlist_by_number vars w))
  reads_below arities = All-from_recursion (λ net. net < length K) (reads (netlist_by_number vars w)) (subst (AllByRecursion (λ net. net < length K)) (sym (reads_renamed P N)) (below_of (reads N) (reads_kept vars w fine arities)))

  pub once : (net : ℕ) → net < length K → times net (driven (netlist_by_number vars w)) ≡ 1
  once net less =
      let b = bit_of net less in
      ap (times net) (driven_renamed P N) ∙ ap (λ k. times k (map P (driven N))) (sym b.1) ∙ times_placed K (get_or K net 0) (driven N) b.0 (driven_kept vars w fine) ∙ driven_once (get_or K net 0) b.0

  pub as_many : length (driven (netlist_by_number vars w)) ≡ length K
  as_many = length_once (length K) (driven (netlist_by_number vars w)) drives_below once

  -- inputs are kept, and ports stand once
  pub inputs_kept : AllByRecursion (IsKept vars w) N.inputs
  inputs_kept = all_front (IsKept vars w) N.inputs _ (driven_kept vars w fine)

  pub ports_few : (net : ℕ) → times net (map P N.inputs ++ map P N.outputs) ≤ 1
  ports_few net = by (nat_lt net (length K)) refl
    where
      joined : map P N.inputs ++ map P N.outputs ≡ map P (N.inputs ++ N.outputs)
      joined = sym (map_join P N.inputs N.outputs)

      all : AllByRecursion (IsKept vars w) (N.inputs ++ N.outputs)
      all = all_join (IsKept vars w) N.inputs N.outputs inputs_kept (outputs_kept vars w fine)

      by : (t : Bool) → nat_lt net (length K) ≡ t → times net (map P N.inputs ++ map P N.outputs) ≤ 1
      by true e =
          let b = bit_of net (grind (arith, nat_tests, e)) in
          let same : times net (map P N.inputs ++ map P N.outputs) ≡ times (get_or K net 0) (N.inputs ++ N.outputs) =
          ap (times net) joined ∙ ap (λ k. times k (map P (N.inputs ++ N.outputs))) (sym b.1) ∙ times_placed K (get_or K net 0) (N.inputs ++ N.outputs) b.0 all in
          omega (arith, same, times_join (get_or K net 0) N.inputs N.outputs, times_fewer (is_data w) (get_or K net 0) (input_bits vars), (ports_once (get_or K net 0) 0 vars).0)
      by false e =
          let none = times_past net (map P (N.inputs ++ N.outputs)) (length K) (grind (arith, nat_tests, e)) (All-from_recursion (λ m. m < length K) (map P (N.inputs ++ N.outputs)) (below_of (N.inputs ++ N.outputs) all)) in
          omega (arith, none, ap (times net) joined)

  pub arities_kept : AllByRecursion HasArity w.gates → All HasArity (netlist_by_number vars w).gates
  arities_kept arities =
      All-from_recursion HasArity (netlist_by_number vars w).gates
      (all_images HasArity (renamed_gate P) (filter (λ (g : Gate ℕ). is_data w g.out) w.gates)
      (all_filtered (λ (g : Gate ℕ). HasArity (renamed_gate P g)) (λ g. is_data w g.out) w.gates
      (λ i g at data_is. subst (IsArity g.op) (sym (length_map P g.ins)) (at_place HasArity w.gates i g arities at))))

  pub is_netlist : AllByRecursion HasArity w.gates → IsNetlist (netlist_by_number vars w)
  is_netlist arities = record {
    one_driver = λ net less. once net (omega (arith, less, as_many));
    drives_nets = subst (λ n. All (λ net. net < n) (driven (netlist_by_number vars w))) (sym as_many) drives_below;
    reads_nets = subst (λ n. All (λ net. net < n) (reads (netlist_by_number vars w))) (sym as_many) (reads_below arities);
    ports = ports_few;
    arities = arities_kept arities;
  }

  -- the bit of a number
  pub bit_placed : (b : ℕ) → IsKept vars w b → HasPlace K b
  bit_placed b h = has_place K b h

  -- no two names of kept bits are alike
  pub names_alike : (names : List BitName) → names ≡ map (bit_name 0 vars) K → AllPairs (λ a b. a ≢ b) names
  names_alike names same i j d less within =
      let long : length names ≡ length K = ap length same ∙ length_map (bit_name 0 vars) K in
      let small : j < length K = omega (arith, within, long) in
      let first : get_or names i d ≡ bit_name 0 vars (get_or K i 0) = ap (λ ns. get_or ns i d) same ∙ get_or-map (bit_name 0 vars) K i 0 d (omega (arith, less, small)) in
      let second : get_or names j d ≡ bit_name 0 vars (get_or K j 0) = ap (λ ns. get_or ns j d) same ∙ get_or-map (bit_name 0 vars) K j 0 d small in
      λ alike. distinct_apart K kept_distinct i j 0 less small (one_name vars (get_or K i 0) (get_or K j 0) (sym first ∙ alike ∙ second))
