-- The original's wires, added one after another, each with its nets.
use Rattle.std.proofs.Common.{arith, ◌≡◌, inl, ℕ, ◌+◌, ◌<◌, ◌≤◌, List, [], ◌∷◌, ◌++◌, map, filter, length, drop, All, Bool, false, Some, None, slice_get, if◌then◌else◌, sym, ap, subst, ◌∙◌, length-append, append-nil}
use Rattle.std.specs.List.{list_any, range_with_len}
use Rattle.std.specs.Option.{ForSome}
use Rattle.bb_base.specs.declared.variable.BitName.{BitName}
use Rattle.bb_base.specs.declared.variable.Variable.{Variable}
use Rattle.bb_base.specs.Variables.{Entry, IsBit, bit_at, bit_eq, is_port, range_width, places_but}
use Rattle.bb_base.specs.Named.{Named}
use Rattle.bb_base.specs.Building.{with_variable, net_limit}
use Rattle.bb_net.proofs.VariableLemmas.{at_end}
use Rattle.bb_lay.specs.Laying.{AddsAll, CanStand, IsLaid, with_bits, net_bits, all_net_bits}
use Rattle.bb_lay.proofs.Ascending.{filtered_places}
use Rattle.bb_lay.proofs.Standing.{bits_join, laid_step}
use Rattle.bb_lay.proofs.Adding.{Continues, next_of, next_stands}
use Rattle.bb_lay.proofs.Clocks.{drop_pop}
use Rattle.bb_lay.proofs.OwnPorts.{declared}

-- a declared wire has no nets at first
pub wire_declared : (old new : Named) (name : List ℕ) (v : Variable) → is_port v.role ≡ false → new ≡ with_variable old name v None → AddsAll old new ((name, v) ∷ []) [] old.clock
wire_declared old new name v wire e =
    let adds = declared old new name v None e in
    record {
      module_name = adds.module_name;
      variables = adds.variables;
      clock_is = adds.clock_is;
      names = adds.names ∙ ap (λ (b : Bool). old.names ++ (if b then map (bit_at (length old.variables)) (places_but None (range_width v.range)) else [])) wire;
      gates = adds.gates;
      flops = adds.flops;
    }

module _ (old mid : Named) (name : List ℕ) (v : Variable) (adds : AddsAll old mid ((name, v) ∷ []) [] old.clock) (laid : IsLaid old) where
  mid_names : mid.names ≡ old.names
  mid_names = adds.names ∙ append-nil old.names

  pub wire_bits : (number width : ℕ) → number ≡ length old.variables → width ≡ range_width v.range → (place : ℕ) → place < width → IsBit mid.variables (bit_at number place)
  wire_bits number width count wide place less = record {
    entry = (name, v);
    stands = ap (slice_get mid.variables) count ∙ ap (λ vs. slice_get vs (length old.variables)) adds.variables ∙ at_end old.variables (name, v);
    place = omega (arith, less, wide);
  }

  pub wire_clock : (number : ℕ) → number ≡ length old.variables → ForSome mid.clock (λ c. c.variable < number)
  wire_clock number count = λ c is. let low = laid.clock_below c (sym adds.clock_is ∙ is) in omega (arith, low, count)

  pub wire_before : (number : ℕ) → number ≡ length old.variables → All (λ (b : BitName). b.variable < number) mid.names
  wire_before number count = subst (λ k. All (λ (b : BitName). b.variable < k) mid.names) (sym count) (subst (All (λ (b : BitName). b.variable < length old.variables)) (sym mid_names) laid.below)

  pub wire_room : (width : ℕ) → width ≡ range_width v.range → CanStand (old.variables ++ (name, v) ∷ []) → length mid.names + width ≤ net_limit
  wire_room width wide can = omega (arith, ap length mid_names, wide, laid.few, can.few, bits_join old.variables ((name, v) ∷ []))

  -- with some of its bits as nets
  pub wire_adds : (new : Named) (bits : List BitName) → new ≡ with_bits mid bits → AddsAll old new ((name, v) ∷ []) bits old.clock
  wire_adds new bits e = record {
    module_name = ap (λ (k : Named). k.module_name) e ∙ adds.module_name;
    variables = ap (λ (k : Named). k.variables) e ∙ adds.variables;
    clock_is = ap (λ (k : Named). k.clock) e ∙ adds.clock_is;
    names = ap (λ (k : Named). k.names) e ∙ ap (λ ks. ks ++ bits) mid_names;
    gates = ap (λ (k : Named). k.netlist.gates) e ∙ adds.gates;
    flops = ap (λ (k : Named). k.netlist.flops) e ∙ adds.flops;
  }

-- the nets of one of the original's wires
pub own_laid : (old new : Named) (name : List ℕ) (v : Variable) (names : List BitName) (of number width : ℕ) → IsLaid old → number ≡ length old.variables → width ≡ range_width v.range
    → AddsAll old new ((name, v) ∷ []) (net_bits names of number width) old.clock → IsLaid new
own_laid old new name v names of number width laid count wide adds =
    let keeps : ℕ → Bool = λ place. list_any (bit_eq (bit_at of place)) names in
    laid_step old new (name, v) (net_bits names of number width) old.clock (filter keeps (range_with_len 0 (range_width v.range))) laid adds (λ i. map (bit_at (count i)) (filter keeps (range_with_len 0 (wide i)))) (filtered_places keeps (range_width v.range))
    (λ c is. inl is)

-- the next one
module _ (fn l : Named) (names : List BitName) (vs : List Entry) (n : ℕ) (name : List ℕ) (v : Variable) (all : List Entry) (all_bits : List BitName) (at : slice_get vs n ≡ Some (name, v))
    (goes : Continues fn l (drop n vs) all (all_net_bits names n (length l.variables) (drop n vs)) all_bits fn.clock) where
  pub own_can : CanStand (fn.variables ++ all) → CanStand (l.variables ++ (name, v) ∷ [])
  own_can can = next_stands fn l (name, v) (drop (n + 1) vs) (drop n vs) all (all_net_bits names n (length l.variables) (drop n vs)) all_bits fn.clock goes (drop_pop vs n (name, v) at) can

  pub own_step : (new : Named) → AddsAll l new ((name, v) ∷ []) (net_bits names n (length l.variables) (range_width v.range)) l.clock → IsLaid new
      → Continues fn new (drop (n + 1) vs) all (all_net_bits names (n + 1) (length new.variables) (drop (n + 1) vs)) all_bits fn.clock
  own_step new adds laid =
      let split = drop_pop vs n (name, v) at in
      let here : List BitName = net_bits names n (length l.variables) (range_width v.range) in
      let longer : length new.variables ≡ length l.variables + 1 = ap length adds.variables ∙ length-append l.variables ((name, v) ∷ []) in
      let own : AddsAll l new ((name, v) ∷ []) here fn.clock = subst (AddsAll l new ((name, v) ∷ []) here) goes.clock_is adds in
      next_of fn l new (name, v) (drop (n + 1) vs) all here (all_net_bits names n (length l.variables) (drop n vs)) (all_net_bits names (n + 1) (length new.variables) (drop (n + 1) vs)) all_bits fn.clock fn.clock
      (subst (λ ks. Continues fn l ks all (all_net_bits names n (length l.variables) (drop n vs)) all_bits fn.clock) split goes)
      (ap (all_net_bits names n (length l.variables)) split ∙ ap (λ k. here ++ all_net_bits names (n + 1) k (drop (n + 1) vs)) (sym longer)) own laid
