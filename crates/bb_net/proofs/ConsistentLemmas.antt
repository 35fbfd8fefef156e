-- What each call of a builder keeps: names, places and nets fit together.
use Rattle.std.proofs.Common.{◌≡◌, ◌≢◌, ℕ, ◌+◌, ◌<◌, ◌≤◌, List, [], ◌∷◌, ◌++◌, length, map, All, Bool, true, false, get_or, if◌then◌else◌, refl, sym, subst, ◌∙◌, arith, length-append}
use Rattle.std.proofs.lemmas.List.{get_or_append_left}
use Rattle.std.proofs.lemmas.List.Elements.{All-append, All-weaker, All-nil, recursion_from_All, All-from_recursion}
use Rattle.std.proofs.lemmas.List.Concat.{flat_map-append}
use Rattle.std.specs.List.{flat_map, list_any}
use Rattle.std.specs.Option.{ForSome}
use Rattle.bb_base.specs.declared.operator.Op.{Op}
use Rattle.bb_base.specs.declared.variable.BitName.{BitName}
use Rattle.bb_base.specs.Net.{Gate, Flop, driven, reads, HasArity}
use Rattle.bb_base.specs.Operators.{IsArity}
use Rattle.bb_base.specs.Name.{IsName}
use Rattle.bb_base.specs.Variables.{IsEntry, IsBit, bit_at, bit_eq}
use Rattle.bb_base.specs.Named.{Named, IsConsistent}
use Rattle.bb_base.specs.Building.{started, with_net, with_gate, with_flop}
use Rattle.bb_base.proofs.Lists.{in_front, in_back, map_join, same_map_at}

-- nothing stands yet
pub started_fits : (name : List ℕ) → IsName name → IsConsistent (started name)
started_fits name h = record {
  module_name = h;
  entries = All-nil IsEntry;
  ports_first = λ i j v w less a b port. cc;
  clock = λ c e. cc;
  bits = All-nil (IsBit []);
  apart_from_clock = λ c e. cc;
  inputs = refl;
  outputs = refl;
  ports = λ net. omega arith;
  drives_nets = All-nil (λ net. net < 0);
  reads_nets = All-nil (λ net. net < 0);
  arities = All-nil HasArity;
}

-- the three parts of a list, and one with more in the middle
middle : {X : Type 0} (P : X → Type 0) (xs ys zs more : List X) → All P (xs ++ (ys ++ zs)) → All P more → All P (xs ++ ((ys ++ more) ++ zs))
middle P xs ys zs more h k =
    let rest = in_back P xs (ys ++ zs) h in
    All-append P xs ((ys ++ more) ++ zs) (in_front P xs (ys ++ zs) h) (All-append P (ys ++ more) zs (All-append P ys more (in_front P ys zs rest) k) (in_back P ys zs rest))

last : {X : Type 0} (P : X → Type 0) (xs ys zs more : List X) → All P (xs ++ (ys ++ zs)) → All P more → All P (xs ++ (ys ++ (zs ++ more)))
last P xs ys zs more h k =
    let rest = in_back P xs (ys ++ zs) h in
    All-append P xs (ys ++ (zs ++ more)) (in_front P xs (ys ++ zs) h) (All-append P ys (zs ++ more) (in_front P ys zs rest) (All-append P zs more (in_back P ys zs rest) k))

pub first : {X : Type 0} (P : X → Type 0) (xs rest more : List X) → All P (xs ++ rest) → All P more → All P ((xs ++ more) ++ rest)
first P xs rest more h k = All-append P (xs ++ more) rest (All-append P xs more (in_front P xs rest h) k) (in_back P xs rest h)

pub single : {X : Type 0} (P : X → Type 0) (x : X) → P x → All P (x ∷ [])
single P x h = All-from_recursion P (x ∷ []) (h, tt)

pub gate_fits : (n : Named) (op : Op) (out : ℕ) (ins : List ℕ) → IsConsistent n → out < length n.names → All (λ net. net < length n.names) ins → IsArity op (length ins) → IsConsistent (with_gate n op out ins)
gate_fits n op out ins h below_out below_ins arity =
    let P : ℕ → Type 0 = λ net. net < length n.names in
    let g : Gate ℕ = record { op = op; out = out; ins = ins } in
    let outs : List ℕ = map (λ (k : Gate ℕ). k.out) n.netlist.gates in
    let read : List ℕ = flat_map (λ (k : Gate ℕ). k.ins) n.netlist.gates in
    let outs_more : map (λ (k : Gate ℕ). k.out) (n.netlist.gates ++ g ∷ []) ≡ outs ++ out ∷ [] = map_join (λ (k : Gate ℕ). k.out) n.netlist.gates (g ∷ []) in
    let read_more : flat_map (λ (k : Gate ℕ). k.ins) (n.netlist.gates ++ g ∷ []) ≡ read ++ (ins ++ []) = flat_map-append (λ (k : Gate ℕ). k.ins) n.netlist.gates (g ∷ []) in
    record {
      module_name = h.module_name;
      entries = h.entries;
      ports_first = h.ports_first;
      clock = h.clock;
      bits = h.bits;
      apart_from_clock = h.apart_from_clock;
      inputs = h.inputs;
      outputs = h.outputs;
      ports = h.ports;
      drives_nets = subst (λ (k : List ℕ). All P (n.netlist.inputs ++ (k ++ map (λ (f : Flop ℕ). f.q) n.netlist.flops))) (sym outs_more)
          (middle P n.netlist.inputs outs (map (λ (f : Flop ℕ). f.q) n.netlist.flops) (out ∷ []) h.drives_nets (single P out below_out));
      reads_nets = subst (λ (k : List ℕ). All P (n.netlist.outputs ++ (k ++ map (λ (f : Flop ℕ). f.d) n.netlist.flops))) (sym read_more)
          (middle P n.netlist.outputs read (map (λ (f : Flop ℕ). f.d) n.netlist.flops) (ins ++ []) h.reads_nets (All-append P ins [] below_ins (All-nil P)));
      arities = All-append HasArity n.netlist.gates (g ∷ []) h.arities (single HasArity g arity);
    }

pub flop_fits : (n : Named) (q d : ℕ) → IsConsistent n → q < length n.names → d < length n.names → IsConsistent (with_flop n q d)
flop_fits n q d h below_q below_d =
    let P : ℕ → Type 0 = λ net. net < length n.names in
    let f : Flop ℕ = record { q = q; d = d } in
    let qs : List ℕ = map (λ (k : Flop ℕ). k.q) n.netlist.flops in
    let ds : List ℕ = map (λ (k : Flop ℕ). k.d) n.netlist.flops in
    let qs_more : map (λ (k : Flop ℕ). k.q) (n.netlist.flops ++ f ∷ []) ≡ qs ++ q ∷ [] = map_join (λ (k : Flop ℕ). k.q) n.netlist.flops (f ∷ []) in
    let ds_more : map (λ (k : Flop ℕ). k.d) (n.netlist.flops ++ f ∷ []) ≡ ds ++ d ∷ [] = map_join (λ (k : Flop ℕ). k.d) n.netlist.flops (f ∷ []) in
    let outs : List ℕ = map (λ (k : Gate ℕ). k.out) n.netlist.gates in
    let read : List ℕ = flat_map (λ (k : Gate ℕ). k.ins) n.netlist.gates in
    record {
      module_name = h.module_name;
      entries = h.entries;
      ports_first = h.ports_first;
      clock = h.clock;
      bits = h.bits;
      apart_from_clock = h.apart_from_clock;
      inputs = h.inputs;
      outputs = h.outputs;
      ports = h.ports;
      drives_nets = subst (λ (k : List ℕ). All P (n.netlist.inputs ++ (outs ++ k))) (sym qs_more) (last P n.netlist.inputs outs qs (q ∷ []) h.drives_nets (single P q below_q));
      reads_nets = subst (λ (k : List ℕ). All P (n.netlist.outputs ++ (read ++ k))) (sym ds_more) (last P n.netlist.outputs read ds (d ∷ []) h.reads_nets (single P d below_d));
      arities = h.arities;
    }

-- more names leave those of the nets so far
name_kept : (n : Named) (more : List BitName) (net : ℕ) → net < length n.names → get_or (n.names ++ more) net (bit_at 0 0) ≡ get_or n.names net (bit_at 0 0)
name_kept n more net below = get_or_append_left n.names more (bit_at 0 0) net below

pub names_kept : (n : Named) (more : List BitName) (nets : List ℕ) → All (λ net. net < length n.names) nets
    → map (λ net. get_or (n.names ++ more) net (bit_at 0 0)) nets ≡ map (λ net. get_or n.names net (bit_at 0 0)) nets
names_kept n more nets below =
    same_map_at (λ net. get_or (n.names ++ more) net (bit_at 0 0)) (λ net. get_or n.names net (bit_at 0 0)) (λ net. net < length n.names) (name_kept n more) nets (recursion_from_All (λ net. net < length n.names) nets below)

-- one more name
net_made : (n : Named) (bit : BitName) → IsConsistent n → IsBit n.variables bit → ForSome n.clock (λ c. bit ≢ c) → IsConsistent (record n { names = n.names ++ bit ∷ [] })
net_made n bit h stands apart =
    let more : length (n.names ++ bit ∷ []) ≡ length n.names + 1 = length-append n.names (bit ∷ []) in
    let wider : (net : ℕ) → net < length n.names → net < length (n.names ++ bit ∷ []) = λ net less. omega (arith, more) in
    record {
      module_name = h.module_name;
      entries = h.entries;
      ports_first = h.ports_first;
      clock = h.clock;
      bits = All-append (IsBit n.variables) n.names (bit ∷ []) h.bits (single (IsBit n.variables) bit stands);
      apart_from_clock = λ c e. All-append (λ b. b ≢ c) n.names (bit ∷ []) (h.apart_from_clock c e) (single (λ b. b ≢ c) bit (apart c e));
      inputs = names_kept n (bit ∷ []) n.netlist.inputs (in_front (λ net. net < length n.names) n.netlist.inputs _ h.drives_nets) ∙ h.inputs;
      outputs = names_kept n (bit ∷ []) n.netlist.outputs (in_front (λ net. net < length n.names) n.netlist.outputs _ h.reads_nets) ∙ h.outputs;
      ports = h.ports;
      drives_nets = All-weaker (λ net. net < length n.names) (λ net. net < length (n.names ++ bit ∷ [])) wider (driven n.netlist) h.drives_nets;
      reads_nets = All-weaker (λ net. net < length n.names) (λ net. net < length (n.names ++ bit ∷ [])) wider (reads n.netlist) h.reads_nets;
      arities = h.arities;
    }

pub net_fits : (n : Named) (bit : BitName) → IsConsistent n → IsBit n.variables bit → ForSome n.clock (λ c. bit ≢ c) → IsConsistent (with_net n bit)
net_fits n bit h stands apart = by (list_any (bit_eq bit) n.names)
  where
    by : (b : Bool) → IsConsistent (record n { names = if b then n.names else n.names ++ bit ∷ [] })
    by true = h
    by false = net_made n bit h stands apart

-- the same of a builder that is open, whose parts are m and whose value was n
pub gate_added : (m n : Named) (op : Op) (out : ℕ) (ins : List ℕ) (gates : List (Gate ℕ)) → m ≡ n → IsConsistent m → out < length n.names → All (λ net. net < length n.names) ins → IsArity op (length ins)
    → gates ≡ m.netlist.gates ++ record { op = op; out = out; ins = ins } ∷ [] → IsConsistent (record m { netlist = record m.netlist { gates = gates } })
gate_added m n op out ins gates same h below_out below_ins arity e =
    subst (λ gs. IsConsistent (record m { netlist = record m.netlist { gates = gs } })) (sym e)
    (gate_fits m op out ins h (subst (λ k. out < length k.names) (sym same) below_out) (subst (λ k. All (λ net. net < length k.names) ins) (sym same) below_ins) arity)

pub flop_added : (m n : Named) (q d : ℕ) (flops : List (Flop ℕ)) → m ≡ n → IsConsistent m → q < length n.names → d < length n.names
    → flops ≡ m.netlist.flops ++ record { q = q; d = d } ∷ [] → IsConsistent (record m { netlist = record m.netlist { flops = flops } })
flop_added m n q d flops same h below_q below_d e =
    subst (λ fs. IsConsistent (record m { netlist = record m.netlist { flops = fs } })) (sym e)
    (flop_fits m q d h (subst (λ k. q < length k.names) (sym same) below_q) (subst (λ k. d < length k.names) (sym same) below_d))

pub net_added : (m n : Named) (bit : BitName) (names : List BitName) → m ≡ n → IsConsistent m → IsBit n.variables bit → ForSome n.clock (λ c. bit ≢ c)
    → names ≡ (if list_any (bit_eq bit) m.names then m.names else m.names ++ bit ∷ []) → IsConsistent (record m { names = names })
net_added m n bit names same h stands apart e =
    subst (λ ns. IsConsistent (record m { names = ns })) (sym e)
    (net_fits m bit h (subst (λ k. IsBit k.variables bit) (sym same) stands) (subst (λ k. ForSome k.clock (λ c. bit ≢ c)) (sym same) apart))

-- a list that takes one more item, or none
pub one_more : {X : Type 0} (b : Bool) (xs : List X) (x : X) → length (if b then xs else xs ++ x ∷ []) ≤ length xs + 1
one_more true xs x = omega arith
one_more false xs x = omega (arith, length-append xs (x ∷ []))

pub no_more : {X : Type 0} (b : Bool) (xs : List X) (x : X) → b ≡ true → length (if b then xs else xs ++ x ∷ []) ≡ length xs
no_more true xs x h = refl
no_more false xs x h = cc
