-- A vector behind the others, all of whose bits are nets.
use Rattle.std.proofs.Common.{◌≡◌, ◌≢◌, ℕ, ◌+◌, ◌-◌, ◌<◌, ◌≤◌, ◌^◌, true, List, [], ◌∷◌, ◌++◌, length, All, Some, None, sym, ap, subst, ◌∙◌, arith, append_assoc, append-nil, length-append, zero-add}
use Rattle.std.proofs.lemmas.List.Elements.{All-append, All-weaker, All-nil, All-from_recursion}
use Rattle.std.proofs.lemmas.List.FromFn.{length-map-range_with_len, map-range_with_len_more}
use Rattle.std.proofs.lemmas.Option.{slice_get_within}
use Rattle.std.specs.List.{range_with_len}
use Rattle.std.specs.Option.{ForSome}
use Rattle.bb_base.specs.declared.variable.Role.{Role}
use Rattle.bb_base.specs.declared.variable.Role.TheVariants.{Input, Output, Wire}
use Rattle.bb_base.specs.declared.variable.BitName.{BitName}
use Rattle.bb_base.specs.Variables.{IsBit, IsRange, is_port, range_width, bit_at}
use Rattle.bb_base.proofs.Lists.{in_front}
use Rattle.bb_base.specs.Net.{driven, reads}
use Rattle.bb_base.specs.Named.{Named, IsConsistent}
use Rattle.bb_base.specs.Building.{with_variable, with_net, port_bits, IsEarlier}
use Rattle.bb_net.proofs.ConsistentLemmas.{names_kept}
use Rattle.bb_net.proofs.PlaceLemmas.{bit_pushed, still_earlier}
use Rattle.bb_net.proofs.VariableLemmas.{at_end, variable_fits}
use Rattle.bb_sample.specs.Sample.{vector_of, vector, bits_of}
use Rattle.bb_sample.specs.Laying.{with_more_bits, with_vector, CanAdd, CanMake}
use Rattle.bb_sample.proofs.GateLemmas.{all_given}

-- a vector is as wide as it says
pub vector_width : (width : ℕ) → 1 ≤ width → range_width (Some (0, width - 1)) ≡ width
vector_width width some = omega (arith, some)

vector_range : (width : ℕ) → width ≤ 2 ^ 31 → IsRange (Some (0, width - 1))
vector_range width narrow = (omega arith, omega (arith, narrow))

pub length_bits : (number width : ℕ) → length (bits_of number width) ≡ width
length_bits number width = length-map-range_with_len (bit_at number) 0 width

-- a vector of ports has its nets at once
module _ (n : Named) (name : List ℕ) (width : ℕ) (some : 1 ≤ width) where
  bits_are : bits_of (length n.variables) (range_width (Some (0, width - 1))) ≡ bits_of (length n.variables) width
  bits_are = ap (bits_of (length n.variables)) (vector_width width some)

  bits_long : length (bits_of (length n.variables) (range_width (Some (0, width - 1)))) ≡ width
  bits_long = length_bits (length n.variables) (range_width (Some (0, width - 1))) ∙ vector_width width some

  pub inputs_added : with_variable n name (vector_of Input width) None ≡ with_vector n name Input width
  inputs_added = λ i. record n {
    variables = n.variables ++ vector name Input width ∷ [];
    names = n.names ++ bits_are i;
    netlist = record n.netlist { inputs = n.netlist.inputs ++ range_with_len (length n.names) (bits_long i); outputs = append-nil n.netlist.outputs i };
  }

  pub outputs_added : with_variable n name (vector_of Output width) None ≡ with_vector n name Output width
  outputs_added = λ i. record n {
    variables = n.variables ++ vector name Output width ∷ [];
    names = n.names ++ bits_are i;
    netlist = record n.netlist { inputs = append-nil n.netlist.inputs i; outputs = n.netlist.outputs ++ range_with_len (length n.names) (bits_long i) };
  }

pub port_added : (n : Named) (name : List ℕ) (role : Role) (width : ℕ) → 1 ≤ width → is_port role ≡ true → with_variable n name (vector_of role width) None ≡ with_vector n name role width
port_added n name Input width some port = inputs_added n name width some
port_added n name Output width some port = outputs_added n name width some
port_added n name Wire width some port = absurd (cc port)

-- a vector of wires has them when its bits are made nets
pub wires_added : (n : Named) (name : List ℕ) (width : ℕ) → with_more_bits (with_variable n name (vector_of Wire width) None) (bits_of (length n.variables) width) ≡ with_vector n name Wire width
wires_added n name width = λ i. record n {
  variables = n.variables ++ vector name Wire width ∷ [];
  names = append-nil n.names i ++ bits_of (length n.variables) width;
  netlist = record n.netlist { inputs = append-nil n.netlist.inputs i; outputs = append-nil n.netlist.outputs i };
}

-- bits of variables that stand are bits of variables before the next
before_next : (n : Named) → IsConsistent n → All (λ bit. bit.variable < length n.variables) n.names
before_next n h = All-weaker (IsBit n.variables) (λ bit. bit.variable < length n.variables) (λ bit k. slice_get_within n.variables bit.variable k.entry k.stands) n.names h.bits

clock_before_next : (n : Named) → IsConsistent n → ForSome n.clock (λ c. c.variable < length n.variables)
clock_before_next n h = λ c e. let k = (h.clock c e).stands in slice_get_within n.variables c.variable k.entry k.stands

-- each bit of the new vector stands
new_bits : (n : Named) (name : List ℕ) (width : ℕ) → 1 ≤ width → (place : ℕ) → place < width → IsBit (n.variables ++ vector name Wire width ∷ []) (bit_at (length n.variables) place)
new_bits n name width some place within = record { entry = vector name Wire width; stands = at_end n.variables (vector name Wire width); place = omega (arith, within, vector_width width some) }

pub can_make : (n new : Named) (name : List ℕ) (width : ℕ) → CanAdd n name Wire width → new ≡ with_variable n name (vector_of Wire width) None → CanMake new (length n.variables) width
can_make n new name width can e = subst (λ k. CanMake k (length n.variables) width) (sym e) made
  where
    made : CanMake (with_variable n name (vector_of Wire width) None) (length n.variables) width
    made = record {
      bits = new_bits n name width can.some;
      before = All-append (λ bit. bit.variable < length n.variables) n.names [] (before_next n can.consistent) (All-nil (λ (bit : BitName). bit.variable < length n.variables));
      clock_before = clock_before_next n can.consistent;
      room = omega (arith, ap length (append-nil n.names), can.room);
    }

-- a bit behind all others is a net more
pub net_pushed : (now new : Named) (number place : ℕ) → All (IsEarlier number place) now.names → new ≡ with_net now (bit_at number place) → new ≡ with_more_bits now (bit_at number place ∷ [])
net_pushed now new number place earlier added =
    let pushed : new.names ≡ now.names ++ bit_at number place ∷ [] = bit_pushed number place now.names new.names earlier (ap (λ (k : Named). k.names) added) in
    added ∙ ap (λ (k : Named). record now { names = k.names }) (sym added) ∙ (λ i. record now { names = pushed i })

-- the bits of a variable, one after another
pub no_bits : (n : Named) → with_more_bits n [] ≡ n
no_bits n = ap (λ names. record n { names = names }) (append-nil n.names)

pub bits_more : (old now new : Named) (number place : ℕ) → now ≡ with_more_bits old (bits_of number place) → new ≡ with_more_bits now (bit_at number place ∷ []) → new ≡ with_more_bits old (bits_of number (place + 1))
bits_more old now new number place so_far added =
    let bits : List BitName = bits_of number place in
    let next : bits_of number (place + 1) ≡ bits ++ bit_at number place ∷ [] = map-range_with_len_more (bit_at number) 0 place place (zero-add place) in
    added ∙ ap (λ (k : Named). with_more_bits k (bit_at number place ∷ [])) so_far ∙ ap (λ names. record old { names = names }) (append_assoc old.names bits (bit_at number place ∷ [])) ∙ ap (with_more_bits old) (sym next)

pub earlier_more : (now new : Named) (number place : ℕ) → All (IsEarlier number place) now.names → new ≡ with_more_bits now (bit_at number place ∷ []) → All (IsEarlier number (place + 1)) new.names
earlier_more now new number place earlier added = still_earlier number place now.names new.names earlier (ap (λ (k : Named). k.names) added)

pub bits_so_far : (old now : Named) (number place : ℕ) → now ≡ with_more_bits old (bits_of number place) → length now.names ≡ length old.names + place
bits_so_far old now number place e =
    let all = ap (λ (k : Named). length k.names) e in
    omega (arith, all, length-append old.names (bits_of number place), length_bits number place)

-- more names of bits that stand, none of which is the clock's, keep all fitting together
bits_fit : (n : Named) (more : List BitName) → IsConsistent n → All (IsBit n.variables) more → ForSome n.clock (λ c. All (λ bit. bit ≢ c) more) → IsConsistent (with_more_bits n more)
bits_fit n more h stand apart =
    let long : length (n.names ++ more) ≡ length n.names + length more = length-append n.names more in
    let wider : (net : ℕ) → net < length n.names → net < length (n.names ++ more) = λ net less. omega (arith, long, less) in
    record {
      module_name = h.module_name;
      entries = h.entries;
      ports_first = h.ports_first;
      clock = h.clock;
      bits = All-append (IsBit n.variables) n.names more h.bits stand;
      apart_from_clock = λ c e. All-append (λ bit. bit ≢ c) n.names more (h.apart_from_clock c e) (apart c e);
      inputs = names_kept n more n.netlist.inputs (in_front (λ net. net < length n.names) n.netlist.inputs _ h.drives_nets) ∙ h.inputs;
      outputs = names_kept n more n.netlist.outputs (in_front (λ net. net < length n.names) n.netlist.outputs _ h.reads_nets) ∙ h.outputs;
      ports = h.ports;
      drives_nets = All-weaker (λ net. net < length n.names) (λ net. net < length (n.names ++ more)) wider (driven n.netlist) h.drives_nets;
      reads_nets = All-weaker (λ net. net < length n.names) (λ net. net < length (n.names ++ more)) wider (reads n.netlist) h.reads_nets;
      arities = h.arities;
    }

-- a vector that can be added keeps all fitting together
declared_fits : (n : Named) (name : List ℕ) (role : Role) (width : ℕ) → CanAdd n name role width → IsConsistent (with_variable n name (vector_of role width) None)
declared_fits n name role width can = variable_fits n name (vector_of role width) None can.consistent can.valid (vector_range width can.narrow) can.ports_first (λ p e. cc)

pub vector_fits : (n : Named) (name : List ℕ) (role : Role) (width : ℕ) → CanAdd n name role width → IsConsistent (with_vector n name role width)
vector_fits n name Input width can = subst IsConsistent (inputs_added n name width can.some) (declared_fits n name Input width can)
vector_fits n name Output width can = subst IsConsistent (outputs_added n name width can.some) (declared_fits n name Output width can)
vector_fits n name Wire width can =
    subst IsConsistent (wires_added n name width) (bits_fit (with_variable n name (vector_of Wire width) None) (bits_of (length n.variables) width) (declared_fits n name Wire width can) stand apart)
  where
    stand : All (IsBit (n.variables ++ vector name Wire width ∷ [])) (bits_of (length n.variables) width)
    stand = All-from_recursion (IsBit (n.variables ++ vector name Wire width ∷ [])) (bits_of (length n.variables) width)
        (all_given (IsBit (n.variables ++ vector name Wire width ∷ [])) (bit_at (length n.variables)) width (new_bits n name width can.some))

    apart : ForSome n.clock (λ c. All (λ bit. bit ≢ c) (bits_of (length n.variables) width))
    apart = λ c e.
        let less = clock_before_next n can.consistent c e in
        All-from_recursion (λ bit. bit ≢ c) (bits_of (length n.variables) width)
        (all_given (λ bit. bit ≢ c) (bit_at (length n.variables)) width (λ place within same. let one : length n.variables ≡ c.variable = ap (λ (b : BitName). b.variable) same in omega (arith, less, one)))

-- it has no more bits at once than it is wide
pub port_few : (number : ℕ) (role : Role) (width : ℕ) → 1 ≤ width → length (port_bits number (vector_of role width) None) ≤ width
port_few number Input width some = omega (arith, length_bits number (range_width (Some (0, width - 1))), vector_width width some)
port_few number Output width some = omega (arith, length_bits number (range_width (Some (0, width - 1))), vector_width width some)
port_few number Wire width some = omega arith
