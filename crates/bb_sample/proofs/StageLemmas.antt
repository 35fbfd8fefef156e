-- A sample's variables and nets, vector after vector.
use Rattle.std.proofs.Common.{◌≡◌, ℕ, ◌+◌, ◌≤◌, Bool, true, false, List, [], ◌∷◌, length, map, codes, Some, None, refl, sym, ap, subst, ◌∙◌, arith, length-append}
use Rattle.std.proofs.lemmas.Bool.Decides.{nat_tests}
use Rattle.std.proofs.lemmas.List.Elements.{All-from_recursion, All-nil}
use Rattle.std.specs.List.{range_with_len}
use Rattle.std.specs.Option.{ForSome}
use Rattle.bb_base.specs.declared.variable.Role.TheVariants.{Input, Output, Wire}
use Rattle.bb_base.specs.declared.variable.Variable.{Variable}
use Rattle.bb_base.specs.Name.{IsName, IsNameByte}
use Rattle.bb_base.specs.Variables.{Entry, is_port}
use Rattle.bb_base.specs.Named.{Named, IsConsistent}
use Rattle.bb_base.specs.Building.{started, with_variable, with_gates, with_flops, MayClock}
use Rattle.bb_net.proofs.ConsistentLemmas.{started_fits}
use Rattle.bb_net.proofs.VariableLemmas.{variable_fits}
use Rattle.bb_sample.specs.Sample.{input_count, output_count, flop_count, is_clocked, net_count, bits_of, variables_of, sample_clock, bits_of_vectors, gate_at, buffer_at, flop_at, sample_of}
use Rattle.bb_sample.specs.Laying.{CanAdd, with_vector, begun, with_inputs, with_ports, with_states, laid}
use Rattle.bb_sample.proofs.NetLemmas.{inputs_are}
use Rattle.bb_sample.proofs.VectorLemmas.{length_bits, vector_fits}

-- names
one_letter : (b : ℕ) → IsNameByte b → IsName (b ∷ [])
one_letter b h = record { some = omega arith; short = omega arith; plain = All-from_recursion IsNameByte (b ∷ []) (h, tt) }

clock_name : IsName (codes "clk")
clock_name = record { some = omega arith; short = omega arith; plain = All-from_recursion IsNameByte (codes "clk") ((omega arith, omega arith), ((omega arith, omega arith), ((omega arith, omega arith), tt))) }

pub sample_name : IsName (codes "sample")
sample_name = record {
  some = omega arith;
  short = omega arith;
  plain = All-from_recursion IsNameByte (codes "sample") ((omega arith, omega arith), ((omega arith, omega arith), ((omega arith, omega arith), ((omega arith, omega arith), ((omega arith, omega arith), ((omega arith, omega arith), tt))))));
}

-- the clock of an empty module
abbrev pub clock_variable : Variable
clock_variable = record { range = None; role = Input }

pub may_clock : ForSome (Some 0) (MayClock (started (codes "sample")) clock_variable)
may_clock = λ p e. let same : 0 ≡ p = cc in subst (MayClock (started (codes "sample")) clock_variable) same (record { input = refl; within = omega arith; first = refl })

pub clock_added : with_variable (started (codes "sample")) (codes "clk") clock_variable (Some 0) ≡ begun true
unfolding begun
clock_added = refl

pub none_added : started (codes "sample") ≡ begun false
unfolding begun
none_added = refl

begun_fits : (b : Bool) → IsConsistent (begun b)
begun_fits true = subst IsConsistent clock_added (variable_fits (started (codes "sample")) (codes "clk") clock_variable (Some 0) (started_fits (codes "sample") sample_name) clock_name tt (λ h. All-nil (λ (w : Entry). is_port w.1.role ≡ true)) may_clock)
begun_fits false = subst IsConsistent none_added (started_fits (codes "sample") sample_name)

-- the inputs
pub can_inputs : (b : Bool) → CanAdd (begun b) (codes "i") Input input_count
unfolding begun
can_inputs true = record {
  consistent = begun_fits true;
  valid = one_letter 105 (omega arith, omega arith);
  fresh = refl;
  few = omega arith;
  some = omega (arith, inputs_are);
  narrow = omega (arith, inputs_are);
  ports_first = λ h. All-from_recursion (λ (v : Entry). is_port v.1.role ≡ true) (begun true).variables (refl, tt);
  room = omega (arith, inputs_are);
}
can_inputs false = record {
  consistent = begun_fits false;
  valid = one_letter 105 (omega arith, omega arith);
  fresh = refl;
  few = omega arith;
  some = omega (arith, inputs_are);
  narrow = omega (arith, inputs_are);
  ports_first = λ h. All-nil (λ (v : Entry). is_port v.1.role ≡ true);
  room = omega (arith, inputs_are);
}

inputs_fit : (b : Bool) → IsConsistent (with_inputs b)
unfolding with_inputs
inputs_fit b = vector_fits (begun b) (codes "i") Input input_count (can_inputs b)

-- the outputs
pub can_outputs : (b : Bool) (number : ℕ) → 1 ≤ number → CanAdd (with_inputs b) (codes "o") Output (output_count number)
unfolding begun with_inputs
can_outputs true number some = record {
  consistent = inputs_fit true;
  valid = one_letter 111 (omega arith, omega arith);
  fresh = refl;
  few = omega arith;
  some = omega (arith, some);
  narrow = omega arith;
  ports_first = λ h. All-from_recursion (λ (v : Entry). is_port v.1.role ≡ true) (with_inputs true).variables (refl, (refl, tt));
  room = omega (arith, length_bits 1 input_count, inputs_are);
}
can_outputs false number some = record {
  consistent = inputs_fit false;
  valid = one_letter 111 (omega arith, omega arith);
  fresh = refl;
  few = omega arith;
  some = omega (arith, some);
  narrow = omega arith;
  ports_first = λ h. All-from_recursion (λ (v : Entry). is_port v.1.role ≡ true) (with_inputs false).variables (refl, tt);
  room = omega (arith, length_bits 0 input_count, inputs_are);
}

ports_fit : (b : Bool) (number : ℕ) → 1 ≤ number → IsConsistent (with_ports b number)
unfolding with_ports
ports_fit b number some = vector_fits (with_inputs b) (codes "o") Output (output_count number) (can_outputs b number some)

-- the names so far, by their number
port_names : (b : Bool) (number : ℕ) → length (with_ports b number).names ≡ input_count + output_count number
unfolding begun with_inputs with_ports
port_names true number = omega (arith, length-append (bits_of 1 input_count) (bits_of 2 (output_count number)), length_bits 1 input_count, length_bits 2 (output_count number))
port_names false number = omega (arith, length-append (bits_of 0 input_count) (bits_of 1 (output_count number)), length_bits 0 input_count, length_bits 1 (output_count number))

-- a clock says that there are flip-flops, and none that there are none
pub clocked_some : (number : ℕ) → is_clocked number ≡ true → 1 ≤ flop_count number
clocked_some number e = grind (arith, nat_tests, e)

pub clocked_none : (number : ℕ) → is_clocked number ≡ false → flop_count number ≡ 0
clocked_none number e = grind (arith, nat_tests, e)

few_flops : (number : ℕ) → flop_count number ≤ number
few_flops number = omega arith

-- the bits of the flip-flops
pub can_states : (number : ℕ) → 1 ≤ number → number ≤ 65536 → 1 ≤ flop_count number → CanAdd (with_ports true number) (codes "q") Wire (flop_count number)
unfolding begun with_inputs with_ports
can_states number some few flops = record {
  consistent = ports_fit true number some;
  valid = one_letter 113 (omega arith, omega arith);
  fresh = refl;
  few = omega arith;
  some = flops;
  narrow = omega (arith, few, few_flops number);
  ports_first = λ h. absurd (cc h);
  room = omega (arith, port_names true number, inputs_are, few, few_flops number);
}

states_fit : (b : Bool) (number : ℕ) → 1 ≤ number → number ≤ 65536 → is_clocked number ≡ b → IsConsistent (with_states b number)
unfolding with_states
states_fit true number some few e = vector_fits (with_ports true number) (codes "q") Wire (flop_count number) (can_states number some few (clocked_some number e))
states_fit false number some few e = ports_fit false number some

state_names : (b : Bool) (number : ℕ) → is_clocked number ≡ b → length (with_states b number).names ≡ input_count + output_count number + flop_count number
unfolding with_states
state_names true number e =
    omega (arith, length-append (with_ports true number).names (bits_of (length (with_ports true number).variables) (flop_count number)), length_bits (length (with_ports true number).variables) (flop_count number), port_names true number)
state_names false number e = omega (arith, port_names false number, clocked_none number e)

-- the gates' outputs
can_gates_after : (b : Bool) (number : ℕ) → 1 ≤ number → number ≤ 65536 → is_clocked number ≡ b → CanAdd (with_states b number) (codes "g") Wire number
unfolding begun with_inputs with_ports with_states
can_gates_after true number some few e = record {
  consistent = states_fit true number some few e;
  valid = one_letter 103 (omega arith, omega arith);
  fresh = refl;
  few = omega arith;
  some = some;
  narrow = omega (arith, few);
  ports_first = λ h. absurd (cc h);
  room = omega (arith, state_names true number e, inputs_are, few, few_flops number);
}
can_gates_after false number some few e = record {
  consistent = states_fit false number some few e;
  valid = one_letter 103 (omega arith, omega arith);
  fresh = refl;
  few = omega arith;
  some = some;
  narrow = omega (arith, few);
  ports_first = λ h. absurd (cc h);
  room = omega (arith, state_names false number e, inputs_are, few, few_flops number);
}

pub can_gates : (number : ℕ) → 1 ≤ number → number ≤ 65536 → CanAdd (with_states (is_clocked number) number) (codes "g") Wire number
can_gates number some few = can_gates_after (is_clocked number) number some few refl

-- all is laid
pub laid_fits : (number : ℕ) → 1 ≤ number → number ≤ 65536 → IsConsistent (laid (is_clocked number) number)
unfolding laid
laid_fits number some few = vector_fits (with_states (is_clocked number) number) (codes "g") Wire number (can_gates number some few)

pub laid_names : (number : ℕ) → length (laid (is_clocked number) number).names ≡ net_count number
unfolding laid
laid_names number =
    let before = with_states (is_clocked number) number in
    omega (arith, length-append before.names (bits_of (length before.variables) number), length_bits (length before.variables) number, state_names (is_clocked number) number refl)

-- what is laid, whole
abbrev pub whole : Bool → ℕ → Named
whole b number = record {
  module_name = codes "sample";
  variables = variables_of b number;
  clock = sample_clock b;
  names = bits_of_vectors b number;
  netlist = record { inputs = range_with_len 0 input_count; outputs = range_with_len input_count (output_count number); gates = []; flops = [] };
}

laid_is_after : (b : Bool) (number : ℕ) → laid b number ≡ whole b number
unfolding begun with_inputs with_ports with_states laid
laid_is_after true number = ap (λ k. record (whole true number) { netlist = record (whole true number).netlist { outputs = range_with_len k (output_count number) } }) (length_bits 1 input_count)
laid_is_after false number = ap (λ k. record (whole false number) { netlist = record (whole false number).netlist { outputs = range_with_len k (output_count number) } }) (length_bits 0 input_count)

pub laid_is : (number : ℕ) → laid (is_clocked number) number ≡ whole (is_clocked number) number
laid_is number = laid_is_after (is_clocked number) number

-- and filled
pub filled : (number : ℕ) (one two three four : Named) → one ≡ laid (is_clocked number) number → two ≡ with_gates one (map (gate_at number) (range_with_len 0 number)) → three ≡ with_gates two (map (buffer_at number) (range_with_len 0 (output_count number)))
    → four ≡ with_flops three (map (flop_at number) (range_with_len 0 (flop_count number))) → four ≡ sample_of number
filled number one two three four a b c d =
    let gs = map (gate_at number) (range_with_len 0 number) in
    let bs = map (buffer_at number) (range_with_len 0 (output_count number)) in
    let fs = map (flop_at number) (range_with_len 0 (flop_count number)) in
    d ∙ ap (λ (k : Named). with_flops k fs) (c ∙ ap (λ (k : Named). with_gates k bs) (b ∙ ap (λ (k : Named). with_gates k gs) (a ∙ laid_is number)))

-- nets, gates and flip-flops so far
pub nets_laid : (number : ℕ) (n : Named) → n ≡ laid (is_clocked number) number → length n.names ≡ net_count number
nets_laid number n e = ap (λ (k : Named). length k.names) e ∙ laid_names number

pub no_gates_laid : (number : ℕ) (n : Named) → n ≡ laid (is_clocked number) number → length n.netlist.gates ≡ 0
no_gates_laid number n e = ap (λ (k : Named). length k.netlist.gates) (e ∙ laid_is number)

pub no_flops_laid : (number : ℕ) (n : Named) → n ≡ laid (is_clocked number) number → length n.netlist.flops ≡ 0
no_flops_laid number n e = ap (λ (k : Named). length k.netlist.flops) (e ∙ laid_is number)

-- what is called with each vector, and what stands after it
pub begun_without : (b : Bool) (name : List ℕ) (n : Named) → n ≡ started name → name ≡ codes "sample" → b ≡ false → n ≡ begun b
begun_without b name n e named none = e ∙ ap started named ∙ none_added ∙ ap begun (sym none)

pub inputs_can : (b : Bool) (n : Named) (width : ℕ) → n ≡ begun b → width ≡ input_count → CanAdd n (codes "i") Input width
inputs_can b n width e w = subst (λ (k : Named). CanAdd k (codes "i") Input width) (sym e) (subst (λ k. CanAdd (begun b) (codes "i") Input k) (sym w) (can_inputs b))

pub inputs_given : (b : Bool) (n new : Named) (width : ℕ) → n ≡ begun b → width ≡ input_count → new ≡ with_vector n (codes "i") Input width → new ≡ with_inputs b
unfolding with_inputs
inputs_given b n new width e w h = h ∙ (λ i. with_vector (e i) (codes "i") Input (w i))

pub outputs_can : (b : Bool) (number : ℕ) (n : Named) (width : ℕ) → 1 ≤ number → n ≡ with_inputs b → width ≡ output_count number → CanAdd n (codes "o") Output width
outputs_can b number n width some e w = subst (λ (k : Named). CanAdd k (codes "o") Output width) (sym e) (subst (λ k. CanAdd (with_inputs b) (codes "o") Output k) (sym w) (can_outputs b number some))

pub outputs_given : (b : Bool) (number : ℕ) (n new : Named) (width : ℕ) → n ≡ with_inputs b → width ≡ output_count number → new ≡ with_vector n (codes "o") Output width → new ≡ with_ports b number
unfolding with_ports
outputs_given b number n new width e w h = h ∙ (λ i. with_vector (e i) (codes "o") Output (w i))

pub no_states : (b : Bool) (number : ℕ) (n : Named) → b ≡ false → n ≡ with_ports b number → n ≡ with_states b number
unfolding with_states
no_states true number n none e = absurd (cc none)
no_states false number n none e = e

pub states_can : (b : Bool) (number : ℕ) (n : Named) (width : ℕ) → number ≤ 65536 → b ≡ true → b ≡ is_clocked number → n ≡ with_ports b number → width ≡ flop_count number → CanAdd n (codes "q") Wire width
states_can b number n width few clock same e w =
    let flops : 1 ≤ flop_count number = clocked_some number (sym same ∙ clock) in
    let some : 1 ≤ number = omega (arith, flops, few_flops number) in
    let at : n ≡ with_ports true number = e ∙ ap (λ k. with_ports k number) clock in
    subst (λ (k : Named). CanAdd k (codes "q") Wire width) (sym at) (subst (λ k. CanAdd (with_ports true number) (codes "q") Wire k) (sym w) (can_states number some few flops))

pub states_given : (b : Bool) (number : ℕ) (n new : Named) (width : ℕ) → b ≡ true → n ≡ with_ports b number → width ≡ flop_count number → new ≡ with_vector n (codes "q") Wire width → new ≡ with_states b number
unfolding with_states
states_given true number n new width clock e w h = h ∙ (λ i. with_vector (e i) (codes "q") Wire (w i))
states_given false number n new width clock e w h = absurd (cc clock)

pub gates_can : (b : Bool) (number : ℕ) (n : Named) → 1 ≤ number → number ≤ 65536 → b ≡ is_clocked number → n ≡ with_states b number → CanAdd n (codes "g") Wire number
gates_can b number n some few same e = subst (λ (k : Named). CanAdd k (codes "g") Wire number) (sym (e ∙ ap (λ k. with_states k number) same)) (can_gates number some few)

pub gates_given : (b : Bool) (number : ℕ) (n new : Named) → b ≡ is_clocked number → n ≡ with_states b number → new ≡ with_vector n (codes "g") Wire number → new ≡ laid (is_clocked number) number
unfolding laid
gates_given b number n new same e h = h ∙ ap (λ (k : Named). with_vector k (codes "g") Wire number) (e ∙ ap (λ k. with_states k number) same)
