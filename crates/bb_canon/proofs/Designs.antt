-- Designs of named netlists that are written alike are one.
use Rattle.std.proofs.Common.{◌≡◌, ℕ, List, map, Option, Some, None, Result, Err, refl, sym, ap, ◌∙◌, subst}
use Rattle.std.specs.Option.{option_map, ForSome}
use Rattle.bb_base.specs.declared.variable.BitName.{BitName}
use Rattle.bb_base.specs.Variables.{Entry, bit_of, is_input, is_output, role_bits}
use Rattle.bb_base.specs.Named.{Named, design_of, IsClock, net_text, name_of_net}
use Rattle.bb_base.proofs.Lists.{map_twice}
use Rattle.bb_spell.specs.Canonical.{canonical_text}
use Rattle.bb_spell.specs.Limits.{IsNumbered}
use Rattle.bb_spell.proofs.Texts.{design_text}
use Rattle.bb_canon.proofs.BitAgain.{same_bit, Apart}
use Rattle.bb_canon.proofs.OneDesign.{same_parts}
use Rattle.bb_spell.specs.Places.{bad_line}
use Rattle.bb_canon.specs.declared.draft.CanonFault.TheVariants.{Line, Unfit, NoMemory}
use Rattle.bb_canon.specs.Faults.{NamesNoLine}
use Rattle.bb_canon.specs.declared.draft.CanonFault.{CanonFault}

-- clocks that are written alike are one
same_clock : (vs : List Entry) (c d : Option BitName) → Apart vs → ForSome c (IsClock vs) → ForSome d (IsClock vs) → option_map (bit_of vs) c ≡ option_map (bit_of vs) d → c ≡ d
same_clock vs None None apart h k e = refl
same_clock vs None (Some b) apart h k e = cc
same_clock vs (Some b) None apart h k e = cc
same_clock vs (Some b) (Some c) apart h k e =
    let one : bit_of vs b ≡ bit_of vs c = cc in
    ap Some (same_bit vs b c apart (h b refl).stands (k c refl).stands one)

-- the texts of nets whose bits are known
texts_of : (n : Named) (nets : List ℕ) (bits : List BitName) → map (name_of_net n) nets ≡ bits → map (net_text n) nets ≡ map (bit_of n.variables) bits
texts_of n nets bits e = sym (map_twice (bit_of n.variables) (name_of_net n) nets) ∙ ap (map (bit_of n.variables)) e

pub one_design : (a b : Named) → IsNumbered a → IsNumbered b → canonical_text (design_of a) ≡ canonical_text (design_of b) → design_of a ≡ design_of b
one_design a b h k same =
    let parts = same_parts (design_of a) (design_of b) (design_text a h) (design_text b k) same in
    let vs : a.variables ≡ b.variables = parts.variables in
    let there : option_map (bit_of b.variables) a.clock ≡ option_map (bit_of b.variables) b.clock = ap (λ v. option_map (bit_of v) a.clock) (sym vs) ∙ parts.clock in
    let clock : a.clock ≡ b.clock = same_clock b.variables a.clock b.clock k.named.apart (subst (λ v. ForSome a.clock (IsClock v)) vs h.named.consistent.clock) k.named.consistent.clock there in
    let inputs : map (net_text a) a.netlist.inputs ≡ map (net_text b) b.netlist.inputs =
    texts_of a a.netlist.inputs (role_bits is_input a.clock 0 a.variables) h.named.consistent.inputs ∙ (λ i. map (bit_of (vs i)) (role_bits is_input (clock i) 0 (vs i))) ∙ sym (texts_of b b.netlist.inputs (role_bits is_input b.clock 0 b.variables) k.named.consistent.inputs) in
    let outputs : map (net_text a) a.netlist.outputs ≡ map (net_text b) b.netlist.outputs =
    texts_of a a.netlist.outputs (role_bits is_output a.clock 0 a.variables) h.named.consistent.outputs ∙ (λ i. map (bit_of (vs i)) (role_bits is_output (clock i) 0 (vs i))) ∙ sym (texts_of b b.netlist.outputs (role_bits is_output b.clock 0 b.variables) k.named.consistent.outputs) in
    λ i. record {
      module_name = parts.name i;
      variables = vs i;
      clock = parts.clock i;
      netlist = record { inputs = inputs i; outputs = outputs i; gates = parts.gates i; flops = parts.flops i };
    }

-- a fault names no line where none is bad
pub names_no_line : (fault : CanonFault) (text : List ℕ) → bad_line text ≡ None → ((n : ℕ) → fault ≡ Line n → bad_line text ≡ Some n) → NamesNoLine fault
names_no_line (Line n) text e h = cc (sym e ∙ h n refl)
names_no_line Unfit text e h = tt
names_no_line NoMemory text e h = tt

-- faults of one outcome
pub err_same : {T E : Type 0} (a b : E) → ◌≡◌ {A = Result T E} (Err a) (Err b) → a ≡ b
err_same a b h = cc
