-- What is wholly drawn is the netlist again.
use Rattle.std.proofs.Common.{◌≡◌, ℕ, List, map, Option, Some, None, Bool, true, false, refl, sym, ap, ◌∙◌, arith, subst, nat_lt, if◌then◌else◌}
use Rattle.std.proofs.lemmas.Bool.Decides.{nat_tests}
use Rattle.std.specs.Option.{option_map}
use Rattle.bb_base.specs.Net.{Gate, Flop, renamed_gate, renamed_flop}
use Rattle.bb_base.specs.declared.variable.BitName.{BitName}
use Rattle.bb_base.specs.Variables.{bit_of, role_bits, is_input, is_output, Entry}
use Rattle.bb_base.specs.Name.{IsName}
use Rattle.bb_base.specs.Named.{Named, IsNamed, design_of, net_text, name_of_net}
use Rattle.bb_base.specs.Building.{started}
use Rattle.bb_base.proofs.Lists.{map_twice, same_map}
use Rattle.bb_net.proofs.ConsistentLemmas.{started_fits}
use Rattle.bb_canon.specs.Toward.{IsDrawn, IsDeclared, clock_among}

-- nothing is declared at first
clock_none_yet : (o : Option BitName) → clock_among o 0 ≡ None
clock_none_yet None = refl
clock_none_yet (Some c) = by (nat_lt c.variable 0) refl
  where
    by : (b : Bool) → nat_lt c.variable 0 ≡ b → (if b then Some c else None) ≡ None
    by true t = absurd (grind (arith, nat_tests))
    by false t = refl

pub nothing_declared : (a n : Named) (name : List ℕ) → IsNamed a → n ≡ started name → name ≡ a.module_name → IsDeclared a n a.variables
nothing_declared a n name h e same =
    subst (λ k. IsDeclared a k a.variables) (sym e) (record {
      module_name = same;
      variables = refl;
      clock = sym (clock_none_yet a.clock);
      consistent = started_fits name (subst IsName (sym same) h.consistent.module_name);
      names = refl;
      gates = refl;
      flops = refl;
    })

-- gates and flip-flops under the texts of nets
gate_texts : (n : Named) (vs : List Entry) (gs : List (Gate ℕ)) → n.variables ≡ vs → map (renamed_gate (net_text n)) gs ≡ map (renamed_gate (bit_of vs)) (map (renamed_gate (name_of_net n)) gs)
gate_texts n vs gs e =
    same_map (renamed_gate (net_text n)) (λ g. renamed_gate (bit_of vs) (renamed_gate (name_of_net n) g)) (λ g.
    let out : net_text n g.out ≡ bit_of vs (name_of_net n g.out) = ap (λ ks. bit_of ks (name_of_net n g.out)) e in
    let ins : map (net_text n) g.ins ≡ map (bit_of vs) (map (name_of_net n) g.ins) = sym (map_twice (bit_of n.variables) (name_of_net n) g.ins) ∙ ap (λ ks. map (bit_of ks) (map (name_of_net n) g.ins)) e in
    λ i. record { op = g.op; out = out i; ins = ins i }) gs
    ∙ sym (map_twice (renamed_gate (bit_of vs)) (renamed_gate (name_of_net n)) gs)

flop_texts : (n : Named) (vs : List Entry) (fs : List (Flop ℕ)) → n.variables ≡ vs → map (renamed_flop (net_text n)) fs ≡ map (renamed_flop (bit_of vs)) (map (renamed_flop (name_of_net n)) fs)
flop_texts n vs fs e =
    same_map (renamed_flop (net_text n)) (λ f. renamed_flop (bit_of vs) (renamed_flop (name_of_net n) f)) (λ f.
    let q : net_text n f.q ≡ bit_of vs (name_of_net n f.q) = ap (λ ks. bit_of ks (name_of_net n f.q)) e in
    let d : net_text n f.d ≡ bit_of vs (name_of_net n f.d) = ap (λ ks. bit_of ks (name_of_net n f.d)) e in
    λ i. record { q = q i; d = d i }) fs
    ∙ sym (map_twice (renamed_flop (bit_of vs)) (renamed_flop (name_of_net n)) fs)

net_texts : (n : Named) (nets : List ℕ) → map (net_text n) nets ≡ map (bit_of n.variables) (map (name_of_net n) nets)
net_texts n nets = sym (map_twice (bit_of n.variables) (name_of_net n) nets)

pub drawn_design : (a n : Named) → IsNamed a → IsDrawn a n a.netlist.gates a.netlist.flops → design_of n ≡ design_of a
drawn_design a n h d =
    let inputs : map (net_text n) n.netlist.inputs ≡ map (net_text a) a.netlist.inputs =
    net_texts n n.netlist.inputs ∙ ap (map (bit_of n.variables)) d.consistent.inputs ∙ (λ i. map (bit_of (d.variables i)) (role_bits is_input (d.clock i) 0 (d.variables i))) ∙ ap (map (bit_of a.variables)) (sym h.consistent.inputs) ∙ sym (net_texts a a.netlist.inputs) in
    let outputs : map (net_text n) n.netlist.outputs ≡ map (net_text a) a.netlist.outputs =
    net_texts n n.netlist.outputs ∙ ap (map (bit_of n.variables)) d.consistent.outputs ∙ (λ i. map (bit_of (d.variables i)) (role_bits is_output (d.clock i) 0 (d.variables i))) ∙ ap (map (bit_of a.variables)) (sym h.consistent.outputs) ∙ sym (net_texts a a.netlist.outputs) in
    let gates : map (renamed_gate (net_text n)) n.netlist.gates ≡ map (renamed_gate (net_text a)) a.netlist.gates =
    gate_texts n a.variables n.netlist.gates d.variables ∙ ap (map (renamed_gate (bit_of a.variables))) d.gates_are ∙ sym (gate_texts a a.variables a.netlist.gates refl) in
    let flops : map (renamed_flop (net_text n)) n.netlist.flops ≡ map (renamed_flop (net_text a)) a.netlist.flops =
    flop_texts n a.variables n.netlist.flops d.variables ∙ ap (map (renamed_flop (bit_of a.variables))) d.flops_are ∙ sym (flop_texts a a.variables a.netlist.flops refl) in
    λ i. record { module_name = d.module_name i; variables = d.variables i; clock = option_map (bit_of (d.variables i)) (d.clock i); netlist = record { inputs = inputs i; outputs = outputs i; gates = gates i; flops = flops i } }
