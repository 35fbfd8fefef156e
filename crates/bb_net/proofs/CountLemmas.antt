-- A named netlist has no more nets than its variables have bits.
use Rattle.std.proofs.Common.{◌≡◌, ◌≢◌, ℕ, ◌+◌, ◌<◌, ◌≤◌, Bool, true, false, nat_lt, List, [], ◌∷◌, ◌++◌, length, map, take, Option, Some, None, slice_get, get_or, refl, sym, ap, ◌∙◌, subst, arith, length-append, AllPairs}
use Rattle.std.specs.List.{sum_by}
use Rattle.std.proofs.lemmas.Bool.Decides.{nat_tests}
use Rattle.std.proofs.lemmas.List.{get_or-map, take-take}
use Rattle.std.proofs.lemmas.List.Elements.{recursion_from_All}
use Rattle.std.proofs.lemmas.List.Sums.{sum_by_more, sum_by-take-le, sum_by-cons}
use Rattle.std.proofs.lemmas.Option.{slice_get_within, get_or_from_slice_get}
use Rattle.bb_base.specs.declared.variable.BitName.{BitName}
use Rattle.bb_base.specs.Variables.{Entry, IsBit, range_width, bit_at, bit_count}
use Rattle.bb_base.specs.Net.{Gate, Flop}
use Rattle.bb_base.specs.Named.{Named, IsNamed}
use Rattle.bb_base.proofs.Lists.{length_map, all_map_back}
use Rattle.bb_base.proofs.Distinct.{few_distinct}

-- how many bits variables have, as a sum
abbrev bits_of : List Entry → ℕ
bits_of variables = sum_by (λ v. range_width v.1.range) variables

-- the sum is the count
bits_counted : (variables : List Entry) → bits_of variables ≡ bit_count variables
bits_counted [] = refl
bits_counted (v ∷ vs) = sum_by-cons (λ w. range_width w.1.range) v vs ∙ ap (λ n. range_width v.1.range + n) (bits_counted vs)

-- one more variable
bits_more : (variables : List Entry) (i : ℕ) (v : Entry) → i < length variables → slice_get variables i ≡ Some v
    → bits_of (take (i + 1) variables) ≡ bits_of (take i variables) + range_width v.1.range
bits_more variables i v below at =
    sum_by_more (λ w. range_width w.1.range) variables i v below ∙ ap (λ w. bits_of (take i variables) + range_width w.1.range) (get_or_from_slice_get variables i v v at)

-- some variables have at most the bits of all
bits_le : (variables : List Entry) (i : ℕ) → bits_of (take i variables) ≤ bits_of variables
bits_le variables i = sum_by-take-le (λ w. range_width w.1.range) variables i

-- a bit's number among all bits of the variables
offset : List Entry → BitName → ℕ
offset variables bit = bits_of (take bit.variable variables) + bit.place

-- fewer variables have at most as many bits
bits_up_to : (variables : List Entry) (i j : ℕ) → i ≤ j → bits_of (take i variables) ≤ bits_of (take j variables)
bits_up_to variables i j less = subst (λ vs. bits_of vs ≤ bits_of (take j variables)) (take-take i j variables less) (bits_le (take j variables) i)

-- a bit comes before the next variable's bits
offset_end : (variables : List Entry) (bit : BitName) → IsBit variables bit → offset variables bit < bits_of (take (bit.variable + 1) variables)
unfolding offset
offset_end variables bit h =
    let more = bits_more variables bit.variable h.entry (slice_get_within variables bit.variable h.entry h.stands) h.stands in
    omega (arith, more, h.place)

-- and before the end
offset_below : (variables : List Entry) (bit : BitName) → IsBit variables bit → offset variables bit < bits_of variables
offset_below variables bit h = omega (arith, offset_end variables bit h, bits_le variables (bit.variable + 1))

-- a bit of an earlier variable has a lesser number
offset_before : (variables : List Entry) (a b : BitName) → IsBit variables a → a.variable < b.variable → offset variables a < offset variables b
unfolding offset
offset_before variables a b h less = omega (arith, offset_end variables a h, bits_up_to variables (a.variable + 1) b.variable (omega arith))

-- two bits have two numbers
offset_apart : (variables : List Entry) (a b : BitName) → IsBit variables a → IsBit variables b → a ≢ b → offset variables a ≢ offset variables b
unfolding offset
offset_apart variables a b ha hb apart same = by (nat_lt a.variable b.variable) refl (nat_lt b.variable a.variable) refl
  where
    by : (x : Bool) → nat_lt a.variable b.variable ≡ x → (y : Bool) → nat_lt b.variable a.variable ≡ y → ⊥
    by true x y e = absurd (omega (arith, offset_before variables a b ha (grind (arith, nat_tests)), same))
    by false x true e = absurd (omega (arith, offset_before variables b a hb (grind (arith, nat_tests)), same))
    by false x false e =
        let variable : a.variable ≡ b.variable = grind (arith, nat_tests) in
        let place : a.place ≡ b.place = omega (arith, same, ap (λ v. bits_of (take v variables)) variable) in
        apart (λ i. record { variable = variable i; place = place i })

-- there are at most as many nets as bits
pub nets_few : (a : Named) → IsNamed a → length a.names ≤ bit_count a.variables
unfolding offset
nets_few a named =
    let f = offset a.variables in
    let long : length (map f a.names) ≡ length a.names = length_map f a.names in
    let below = all_map_back (λ x. x < bits_of a.variables) (IsBit a.variables) f (offset_below a.variables) a.names (recursion_from_All (IsBit a.variables) a.names named.consistent.bits) in
    let few = few_distinct (map f a.names) (bits_of a.variables) apart below in
    omega (arith, long, few, bits_counted a.variables)
  where
    apart : AllPairs (λ x y. x ≢ y) (map (offset a.variables) a.names)
    apart i j d less within =
        let z = bit_at 0 0 in
        let long : length (map (offset a.variables) a.names) ≡ length a.names = length_map (offset a.variables) a.names in
        let first = get_or-map (offset a.variables) a.names i z d (omega (arith, less, within, long)) in
        let second = get_or-map (offset a.variables) a.names j z d (omega (arith, within, long)) in
        let two = offset_apart a.variables (get_or a.names i z) (get_or a.names j z) (named.consistent.bits i z (omega (arith, less, within, long))) (named.consistent.bits j z (omega (arith, within, long))) (named.alike i j z less (omega (arith, within, long))) in
        λ e. two (sym first ∙ (e ∙ second))

-- a variable has a bit
width_some : (range : Option (ℕ × ℕ)) → 0 < range_width range
width_some None = omega arith
width_some (Some r) = omega arith

-- there are at most as many variables as bits
pub variables_few : (variables : List Entry) → length variables ≤ bit_count variables
variables_few [] = omega arith
variables_few (v ∷ vs) = omega (arith, variables_few vs, width_some v.1.range)

module _ (a : Named) (named : IsNamed a) where
  -- what is driven, by inputs, gates and flip-flops
  driven_count : length a.netlist.inputs + (length a.netlist.gates + length a.netlist.flops) ≡ length a.names
  driven_count =
      let outs = length_map (λ (g : Gate ℕ). g.out) a.netlist.gates in
      let qs = length_map (λ (f : Flop ℕ). f.q) a.netlist.flops in
      let one = length-append a.netlist.inputs (map (λ (g : Gate ℕ). g.out) a.netlist.gates ++ map (λ (f : Flop ℕ). f.q) a.netlist.flops) in
      let two = length-append (map (λ (g : Gate ℕ). g.out) a.netlist.gates) (map (λ (f : Flop ℕ). f.q) a.netlist.flops) in
      omega (arith, named.names, one, two, outs, qs)

  pub inputs_few : length a.netlist.inputs ≤ length a.names
  inputs_few = omega (arith, driven_count)

  pub gates_few : length a.netlist.gates ≤ length a.names
  gates_few = omega (arith, driven_count)

  -- each net has one driver
  pub flops_few : length a.netlist.flops ≤ length a.names
  flops_few = omega (arith, driven_count)
