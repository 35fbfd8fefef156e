-- One cycle of a netlist: its order picks gates that write first, and its inputs and q's keep the bits that were written.
use Rattle.std.proofs.Common.{arith, ◌≡◌, inl, inr, ℕ, zero, suc, ◌+◌, ◌<◌, ◌≤◌, Bool, true, false, List, [], ◌∷◌, ◌++◌, length, map, refl, sym, ◌∙◌, subst, slice_get, Some, nat_lt, get_or, All, Contains}
use Rattle.std.proofs.lemmas.Bool.Decides.{nat_tests}
use Rattle.std.proofs.lemmas.List.Elements.{All-from_recursion, recursion_from_All}
use Rattle.std.proofs.lemmas.List.FromFn.{get_or-range_with_len, length-range_with_len}
use Rattle.std.proofs.lemmas.List.Sorted.{All-permutation, Contains-permutation}
use Rattle.std.proofs.lemmas.Option.{slice_get_within, get_or_from_slice_get}
use Rattle.std.specs.List.{AllByRecursion, range_with_len, flat_map}
use Rattle.bb_base.proofs.Lists.{all_front, all_back, all_map, all_parts, same_map_at, map_twice}
use Rattle.bb_base.proofs.Contained.{by_place, place_of}
use Rattle.bb_base.specs.Net.{Gate, Flop, Netlist, driven, reads, times, IsNetlist}
use Rattle.bb_base.specs.Order.{drivers, IsOrder, ComesBefore}
use Rattle.bb_base.specs.Run.{Meets, Settles}
use Rattle.bb_base.proofs.TimesLemmas.{once_distinct}
use Rattle.bb_base.proofs.CycleLemmas.{follows}
use Rattle.bb_base.proofs.GateLemmas.{outs_times, at_most_one, undriven, stands_once}
use Rattle.bb_eqn.specs.Values.{bits_at}
use Rattle.bb_eqn.specs.Sequence.{WriteFirst}
use Rattle.bb_eqn.proofs.Picked.{picked, Once, write_first, of_picked, to_picked, apart_all}
use Rattle.bb_eqn.proofs.Evaluated.{evaluated, evaluated_met}

-- no number stands in an order twice
order_once : (gates : List (Gate ℕ)) (order : List ℕ) → IsOrder gates order → Once order
order_once gates order o i j h at there = by (nat_lt i j) refl (nat_lt j i) refl
  where
    never : (p q : ℕ) → p < q → slice_get order p ≡ Some h → slice_get order q ≡ Some h → ⊥
    never p q less a b =
        let pair = o.ascending p q h less (slice_get_within order q h b) in
        let first = get_or_from_slice_get order p h h a in
        let second = get_or_from_slice_get order q h h b in
        not_before (subst (λ x. ComesBefore o.level h x) second (subst (λ x. ComesBefore o.level x (get_or order q h)) first pair))
      where
        not_before : ComesBefore o.level h h → ⊥
        not_before (inl less) = omega (arith, less)
        not_before (inr equal) = omega (arith, equal.1)

    by : (s : Bool) → nat_lt i j ≡ s → (t : Bool) → nat_lt j i ≡ t → i ≡ j
    by true e t f = absurd (never i j (grind (arith, nat_tests, e)) at there)
    by false e true f = absurd (never j i (grind (arith, nat_tests, f)) there at)
    by false e false f = grind (arith, nat_tests, e, f)

-- gates in their order write first
pub order_first : (gates : List (Gate ℕ)) (order : List ℕ) → IsOrder gates order → ((net : ℕ) → times net (map (λ g. g.out) gates) ≤ 1) → WriteFirst (picked gates order)
order_first gates order o once =
    write_first gates order (apart_all gates (once_distinct (map (λ g. g.out) gates) once)) (λ i j reader driver at there reads. follows gates order i j reader driver o at there reads) (order_once gates order o)

-- an order has all gates
pub order_all : (P : Gate ℕ → Type 0) (gates : List (Gate ℕ)) (order : List ℕ) → IsOrder gates order → AllByRecursion P (picked gates order) → AllByRecursion P gates
order_all P gates order o all = by_place P gates each
  where
    each : (h : ℕ) (g : Gate ℕ) → slice_get gates h ≡ Some g → P g
    each h g at =
        let small : h < length gates = slice_get_within gates h g at in
        let inside : h < length (range_with_len 0 (length gates)) = omega (arith, small, length-range_with_len 0 (length gates)) in
        let zero_in : 0 + h ≡ h = omega arith in
        let there : Contains (range_with_len 0 (length gates)) h = (h, inside, get_or-range_with_len 0 (length gates) h h small ∙ zero_in) in
        let place = place_of order h (Contains-permutation (range_with_len 0 (length gates)) order h o.each_once there) in
        of_picked P gates order place.0 h g all place.1 at

-- the numbers of an order are those of gates
pub order_within : (gates : List (Gate ℕ)) (order : List ℕ) → IsOrder gates order → All (λ h. h < length gates) order
order_within gates order o = All-permutation (λ h. h < length gates) (range_with_len 0 (length gates)) order o.each_once (All-from_recursion (λ h. h < length gates) (range_with_len 0 (length gates)) (range_below 0 (length gates) (length gates) (omega arith)))
  where
    range_below : (first count : ℕ) (end : ℕ) → first + count ≤ end → AllByRecursion (λ m. m < end) (range_with_len first count)
    range_below first zero end less = tt
    range_below first (suc count) end less = (omega (arith, less), range_below (first + 1) count end (omega (arith, less)))

-- what the evaluation of gates in their order gives
pub evaluated_all : (gates : List (Gate ℕ)) (order : List ℕ) (values : List Bool) → IsOrder gates order → ((net : ℕ) → times net (map (λ g. g.out) gates) ≤ 1) → All (λ g. g.out < length values) gates
    → AllByRecursion (Meets (bits_at (evaluated (picked gates order) values))) gates
evaluated_all gates order values o once within =
    order_all (Meets (bits_at (evaluated (picked gates order) values))) gates order o
    (evaluated_met (picked gates order) values (to_picked (λ g. g.out < length values) gates order (recursion_from_All (λ g. g.out < length values) gates within)) (order_first gates order o once))

-- what a netlist's parts drive and read
module _ (n : Netlist ℕ) (is : IsNetlist n) where
  abbrev Below : ℕ → Type 0
  Below m = m < length (driven n)

  drives : AllByRecursion Below (driven n)
  drives = recursion_from_All Below (driven n) is.drives_nets

  pub inputs_below : All Below n.inputs
  inputs_below = All-from_recursion Below n.inputs (all_front Below n.inputs (map (λ g. g.out) n.gates ++ map (λ f. f.q) n.flops) drives)

  behind : AllByRecursion Below (map (λ g. g.out) n.gates ++ map (λ f. f.q) n.flops)
  behind = all_back Below n.inputs (map (λ g. g.out) n.gates ++ map (λ f. f.q) n.flops) drives

  pub outs_below : All (λ g. Below g.out) n.gates
  outs_below = All-from_recursion (λ g. Below g.out) n.gates (all_map Below (λ (g : Gate ℕ). Below g.out) (λ (g : Gate ℕ). g.out) (λ g h. h) n.gates (all_front Below (map (λ g. g.out) n.gates) (map (λ f. f.q) n.flops) behind))

  pub states_below : All (λ f. Below f.q) n.flops
  states_below = All-from_recursion (λ f. Below f.q) n.flops (all_map Below (λ (f : Flop ℕ). Below f.q) (λ (f : Flop ℕ). f.q) (λ f h. h) n.flops (all_back Below (map (λ g. g.out) n.gates) (map (λ f. f.q) n.flops) behind))

  read : AllByRecursion Below (flat_map (λ g. g.ins) n.gates ++ map (λ f. f.d) n.flops)
  read = all_back Below n.outputs (flat_map (λ g. g.ins) n.gates ++ map (λ f. f.d) n.flops) (recursion_from_All Below (reads n) is.reads_nets)

  pub ins_below : All (λ g. All Below g.ins) n.gates
  ins_below = All-from_recursion (λ g. All Below g.ins) n.gates (each n.gates (all_parts Below (λ (g : Gate ℕ). g.ins) n.gates (all_front Below (flat_map (λ g. g.ins) n.gates) (map (λ f. f.d) n.flops) read)))
    where
      each : (gs : List (Gate ℕ)) → AllByRecursion (λ g. AllByRecursion Below g.ins) gs → AllByRecursion (λ g. All Below g.ins) gs
      each [] h = tt
      each (g ∷ gs) h = (All-from_recursion Below g.ins h.0, each gs h.1)

  pub taken_below : All (λ f. Below f.d) n.flops
  taken_below = All-from_recursion (λ f. Below f.d) n.flops (all_map Below (λ (f : Flop ℕ). Below f.d) (λ (f : Flop ℕ). f.d) (λ f h. h) n.flops (all_back Below (flat_map (λ g. g.ins) n.gates) (map (λ f. f.d) n.flops) read))

  pub inputs_once : (net : ℕ) → times net n.inputs ≤ 1
  inputs_once net = omega (arith, outs_times n net, at_most_one n net is)

  pub states_once : (net : ℕ) → times net (map (λ f. f.q) n.flops) ≤ 1
  states_once net = omega (arith, outs_times n net, at_most_one n net is)

  pub outs_once : (net : ℕ) → times net (map (λ g. g.out) n.gates) ≤ 1
  outs_once net = omega (arith, outs_times n net, at_most_one n net is)

  -- inputs get their bits first, then q's, then gates give theirs
  pub settled :
      (i s : List Bool) (first second third : ℕ → Bool) → map first n.inputs ≡ i → map (λ f. second f.q) n.flops ≡ s → ((net : ℕ) → times net (map (λ f. f.q) n.flops) ≡ 0 → second net ≡ first net)
      → AllByRecursion (Meets third) n.gates → ((net : ℕ) → drivers n.gates net ≡ [] → third net ≡ second net) → Settles n i s third
  settled i s first second third inputs_are states_are kept_first met kept_second = record {
    inputs = same_map_at third first (λ m. third m ≡ first m) (λ m e. e) n.inputs (by_place (λ m. third m ≡ first m) n.inputs input_kept) ∙ inputs_are;
    state = sym (map_twice third (λ (f : Flop ℕ). f.q) n.flops)
        ∙ (same_map_at third second (λ m. third m ≡ second m) (λ m e. e) (map (λ f. f.q) n.flops) (by_place (λ m. third m ≡ second m) (map (λ f. f.q) n.flops) state_kept)
        ∙ (map_twice second (λ (f : Flop ℕ). f.q) n.flops ∙ states_are));
    gates = met;
  }
    where
      input_kept : (k m : ℕ) → slice_get n.inputs k ≡ Some m → third m ≡ first m
      input_kept k m at =
          let some = stands_once n.inputs k m at in
          kept_second m (undriven n.gates m (omega (arith, some, outs_times n m, at_most_one n m is)))
          ∙ kept_first m (omega (arith, some, outs_times n m, at_most_one n m is))

      state_kept : (k m : ℕ) → slice_get (map (λ (f : Flop ℕ). f.q) n.flops) k ≡ Some m → third m ≡ second m
      state_kept k m at =
          let some = stands_once (map (λ (f : Flop ℕ). f.q) n.flops) k m at in
          kept_second m (undriven n.gates m (omega (arith, some, outs_times n m, at_most_one n m is)))
