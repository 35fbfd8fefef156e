-- Where each net has one driver, what was built is a named netlist.
use Rattle.std.proofs.Common.{◌≡◌, ◌≢◌, ◌↔◌, ℕ, ◌<◌, List, length, AllPairs, Decides, IsSome, sym, ap, ◌∙◌, arith, get_or}
use Rattle.std.proofs.lemmas.Map.Made.{AllPairs-from_IsDistinct}
use Rattle.std.proofs.lemmas.Slice.Eq.{bytes_eq-Decides}
use Rattle.std.specs.List.{IsDistinct}
use Rattle.std.specs.Map.{keys_of}
use Rattle.std.specs.Str.{bytes_eq}
use Rattle.bb_base.specs.declared.variable.BitName.{BitName}
use Rattle.bb_base.specs.Net.{driven, IsNetlist}
use Rattle.bb_base.specs.Variables.{Entry, bit_eq}
use Rattle.bb_base.specs.Named.{Named, IsConsistent, IsNamed}
use Rattle.bb_base.proofs.BitLemmas.{same_bits, bit_eq_itself}
use Rattle.std.proofs.Math.ListN.{get_or-map}
use Rattle.bb_base.proofs.Lists.{length_map}

bit_decides : (a b : BitName) → Decides (bit_eq a b) (a ≡ b)
bit_decides a b = (same_bits a b, λ e. ap (bit_eq a) (sym e) ∙ bit_eq_itself a)

entry_key : (vs : List Entry) (i : ℕ) (d : Entry) → get_or (keys_of vs) i d.0 ≡ (get_or vs i d).0
entry_key vs i d = get_or-map (λ (e : Entry). e.0) vs i d

entries_apart : (vs : List Entry) → IsDistinct bytes_eq (keys_of vs) → AllPairs (λ v w. v.0 ≢ w.0) vs
entries_apart vs h = λ i j d less within same.
    let long : length (keys_of vs) ≡ length vs = length_map (λ (e : Entry). e.0) vs in
    AllPairs-from_IsDistinct bytes_eq-Decides (keys_of vs) h i j d.0 less (omega (arith, long)) (entry_key vs i d ∙ same ∙ sym (entry_key vs j d))

-- what was built is a named netlist, where its nets and drivers are a netlist
pub named_fits : (n : Named) → IsConsistent n → IsNetlist n.netlist → length (driven n.netlist) ≡ length n.names → IsDistinct bit_eq n.names → IsDistinct bytes_eq (keys_of n.variables)
    → (IsSome n.clock ↔ (0 < length n.netlist.flops)) → IsNamed n
named_fits n h netlist count names variables clock = record {
  consistent = h;
  netlist = netlist;
  names = sym count;
  alike = AllPairs-from_IsDistinct bit_decides n.names names;
  apart = entries_apart n.variables variables;
  clocked = clock;
}
