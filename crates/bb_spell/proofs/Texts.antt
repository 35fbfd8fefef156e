-- The design of a named netlist can be written and read.
use Rattle.std.proofs.Common.{◌≡◌, ℕ, ◌<◌, List, [], ◌∷◌, length, map, Option, Some, None, IsSome, ◌↔◌, refl, sym, arith, subst, ◌+◌, ◌≤◌, ◌++◌, Bool, true, false, length-append, ◌-◌, nat_le, All, slice_get, if◌then◌else◌}
use Rattle.std.specs.Option.{option_map}
use Rattle.bb_base.specs.declared.variable.BitName.{BitName}
use Rattle.bb_base.specs.Net.{Flop, renamed_flop, Gate, driven, reads, renamed_gate, HasArity}
use Rattle.bb_base.specs.Variables.{Entry, Bit, bit_of, IsEntry, IsBit, IsRange, bit_in, range_width, is_port}
use Rattle.bb_base.specs.Named.{Named, design_of, net_text, name_of_net, IsNamed}
use Rattle.bb_base.proofs.Lists.{length_map, all_front, all_back, all_map, all_map_back, both_map}
use Rattle.bb_spell.specs.Canonical.{port_names}
use Rattle.bb_spell.specs.Limits.{IsNumbered, IsBuildable}
use Rattle.bb_spell.specs.Writable.{IsBitText, HasClock, IsText, IsGateText, IsFlopText, IsIndex}
use Rattle.std.proofs.lemmas.Bool.Decides.{nat_tests}
use Rattle.std.specs.List.{AllByRecursion, flat_map}
use Rattle.bb_base.specs.Name.{IsName}
use Rattle.bb_spell.specs.Front.{index_limit}
use Rattle.std.proofs.lemmas.List.Elements.{recursion_from_All}
use Rattle.std.proofs.lemmas.Option.{get_or_from_slice_get, slice_get_within}
use Rattle.bb_base.specs.Operators.{IsArity}
use Rattle.bb_base.specs.Variables as bits
use Rattle.bb_spell.proofs.Nets.{all_flat}

index_small : (r : Option (ℕ × ℕ)) (place : ℕ) → IsRange r → place < range_width r → IsIndex (option_map (λ q. bits.index_at q place) r)
index_small None place h w = tt
index_small (Some r) place h w = go (nat_le r.0 r.1) refl
  where
    go : (b : Bool) → nat_le r.0 r.1 ≡ b → (if b then r.0 + place else r.0 - place) < index_limit
    go true e = let le : r.0 ≤ r.1 = grind (arith, nat_tests) in omega (arith, h.0, h.1)
    go false e = omega (arith, h.0)

entry_of : (vs : List Entry) → All IsEntry vs → (i : ℕ) (v : Entry) → slice_get vs i ≡ Some v → IsEntry v
entry_of vs all i v h = subst IsEntry (get_or_from_slice_get vs i v v h) (all i v (slice_get_within vs i v h))

-- a bit that stands
pub bit_text : (vs : List Entry) (bit : BitName) → All IsEntry vs → IsBit vs bit → IsBitText (bit_of vs bit)
bit_text vs bit all h =
    let e = entry_of vs all bit.variable h.entry h.stands in
    let ok : IsBitText (bit_in (Some h.entry) bit.place) = record { name = e.name; index = index_small h.entry.1.range bit.place e.range h.place } in
    subst (λ o. IsBitText (bit_in o bit.place)) (sym h.stands) ok

pub net_ok : (n : Named) (net : ℕ) → IsNamed n → net < length n.names → IsBitText (net_text n net)
net_ok n net h within = bit_text n.variables (name_of_net n net) h.consistent.entries (h.consistent.bits net (record { variable = 0; place = 0 }) within)

abbrev IsNet : Named → ℕ → Type 0
IsNet n net = net < length n.names

nets_ok : (n : Named) → IsNamed n → (nets : List ℕ) → AllByRecursion (IsNet n) nets → AllByRecursion IsBitText (map (net_text n) nets)
nets_ok n h nets all = all_map_back IsBitText (IsNet n) (net_text n) (λ net k. net_ok n net h k) nets all

same_length : (n : Named) (nets : List ℕ) → length nets ≡ length (map (net_text n) nets)
same_length n nets = sym (length_map (net_text n) nets)

gate_text : (n : Named) → IsNamed n → (g : Gate ℕ) → HasArity g → g.out < length n.names → AllByRecursion (IsNet n) g.ins → IsGateText (renamed_gate (net_text n) g)
gate_text n h g a out ins = record {
  arity = subst (λ k. IsArity g.op k) (same_length n g.ins) a;
  out = net_ok n g.out h out;
  ins = nets_ok n h g.ins ins;
}

three_map : {X Y : Type 0} (P : Y → Type 0) (Q R S : X → Type 0) (f : X → Y) → ((x : X) → Q x → R x → S x → P (f x)) → (xs : List X) → AllByRecursion Q xs → AllByRecursion R xs → AllByRecursion S xs → AllByRecursion P (map f xs)
three_map P Q R S f g [] h k l = tt
three_map P Q R S f g (x ∷ xs) h k l = (g x h.0 k.0 l.0, three_map P Q R S f g xs h.1 k.1 l.1)

driven_all : (n : Named) → IsNamed n → AllByRecursion (IsNet n) (driven n.netlist)
driven_all n h = recursion_from_All (IsNet n) (driven n.netlist) h.consistent.drives_nets

reads_all : (n : Named) → IsNamed n → AllByRecursion (IsNet n) (reads n.netlist)
reads_all n h = recursion_from_All (IsNet n) (reads n.netlist) h.consistent.reads_nets

-- the gates
pub gates_text : (n : Named) → IsNamed n → AllByRecursion IsGateText (map (renamed_gate (net_text n)) n.netlist.gates)
gates_text n h =
    let outs = all_front (IsNet n) (map (λ p. p.out) n.netlist.gates) (map (λ f. f.q) n.netlist.flops) (all_back (IsNet n) n.netlist.inputs (map (λ p. p.out) n.netlist.gates ++ map (λ f. f.q) n.netlist.flops) (driven_all n h)) in
    let ins = all_front (IsNet n) (flat_map (λ (p : Gate ℕ). p.ins) n.netlist.gates) (map (λ f. f.d) n.netlist.flops) (all_back (IsNet n) n.netlist.outputs (flat_map (λ (p : Gate ℕ). p.ins) n.netlist.gates ++ map (λ f. f.d) n.netlist.flops) (reads_all n h)) in
    three_map IsGateText HasArity (λ (p : Gate ℕ). IsNet n p.out) (λ (p : Gate ℕ). AllByRecursion (IsNet n) p.ins) (renamed_gate (net_text n)) (gate_text n h) n.netlist.gates (recursion_from_All HasArity n.netlist.gates h.consistent.arities)
    (all_map (IsNet n) (λ p. IsNet n p.out) (λ p. p.out) (λ p k. k) n.netlist.gates outs) (all_flat (IsNet n) (λ (p : Gate ℕ). p.ins) n.netlist.gates ins)

-- the flip-flops
pub flops_text : (n : Named) → IsNamed n → AllByRecursion IsFlopText (map (renamed_flop (net_text n)) n.netlist.flops)
flops_text n h =
    let qs = all_back (IsNet n) (map (λ (p : Gate ℕ). p.out) n.netlist.gates) (map (λ p. p.q) n.netlist.flops) (all_back (IsNet n) n.netlist.inputs (map (λ p. p.out) n.netlist.gates ++ map (λ p. p.q) n.netlist.flops) (driven_all n h)) in
    let ds = all_back (IsNet n) (flat_map (λ (p : Gate ℕ). p.ins) n.netlist.gates) (map (λ p. p.d) n.netlist.flops) (all_back (IsNet n) n.netlist.outputs (flat_map (λ (p : Gate ℕ). p.ins) n.netlist.gates ++ map (λ p. p.d) n.netlist.flops) (reads_all n h)) in
    both_map IsFlopText (λ (p : Flop ℕ). IsNet n p.q) (λ (p : Flop ℕ). IsNet n p.d) (renamed_flop (net_text n)) (λ p q d. record { q = net_ok n p.q h q; d = net_ok n p.d h d }) n.netlist.flops
    (all_map (IsNet n) (λ p. IsNet n p.q) (λ p. p.q) (λ p k. k) n.netlist.flops qs) (all_map (IsNet n) (λ p. IsNet n p.d) (λ p. p.d) (λ p k. k) n.netlist.flops ds)

pub entries_text : (n : Named) → IsNamed n → AllByRecursion IsEntry n.variables
entries_text n h = recursion_from_All IsEntry n.variables h.consistent.entries

pub ports_text : (vs : List Entry) → AllByRecursion IsEntry vs → AllByRecursion IsName (port_names vs)
ports_text [] h = tt
ports_text (v ∷ vs) h = go (is_port v.1.role) refl (ports_text vs h.1)
  where
    go : (b : Bool) → is_port v.1.role ≡ b → AllByRecursion IsName (port_names vs) → AllByRecursion IsName (port_names (v ∷ vs))
    go true e rest = rw e (h.0.name, rest)
    go false e rest = rw e rest

-- the clock
pub clock_text : (n : Named) (c : BitName) → IsNamed n → n.clock ≡ Some c → IsBitText (bit_of n.variables c)
clock_text n c h e = bit_text n.variables c h.consistent.entries (h.consistent.clock c e).stands

clocked_of : (vs : List Entry) (c : Option BitName) (fs : List (Flop ℕ)) (f : Flop ℕ → Flop Bit) → (IsSome c ↔ (0 < length fs)) → ((b : BitName) → c ≡ Some b → IsBitText (bit_of vs b)) → HasClock (option_map (bit_of vs) c) (map f fs)
clocked_of vs None [] f h k = refl
clocked_of vs None (x ∷ xs) f h k =
    let some : IsSome {T = BitName} None = h.1 (omega arith) in
    cc
clocked_of vs (Some b) fs f h k =
    let long : length (map f fs) ≡ length fs = length_map f fs in
    let some : 0 < length fs = h.0 refl in
    (k b refl, omega arith)

pub design_text : (n : Named) → IsNumbered n → IsText (design_of n)
design_text n h = record {
  name = h.named.consistent.module_name;
  ports = ports_text n.variables (entries_text n h.named);
  variables = entries_text n h.named;
  gates = gates_text n h.named;
  flops = flops_text n h.named;
  clock = clocked_of n.variables n.clock n.netlist.flops (renamed_flop (net_text n)) h.named.clocked (λ b e. bit_text n.variables b h.named.consistent.entries (h.named.consistent.clock b e).stands);
  few = omega (arith, h.flops, length_map (renamed_flop (net_text n)) n.netlist.flops);
}

-- flip-flops have nets of their own
pub buildable_numbered : (a : Named) → IsBuildable a → IsNumbered a
buildable_numbered a b = record {
  named = b.named;
  flops = omega (arith, b.nets, b.named.names, length-append a.netlist.inputs (map (λ g. g.out) a.netlist.gates ++ map (λ f. f.q) a.netlist.flops), length-append (map (λ (g : Gate ℕ). g.out) a.netlist.gates) (map (λ (f : Flop ℕ). f.q) a.netlist.flops), length_map (λ (f : Flop ℕ). f.q) a.netlist.flops);
}
