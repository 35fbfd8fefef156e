-- A sample is a named netlist.
use Rattle.std.proofs.Common.{◌≡◌, ◌↔◌, ℕ, ◌<◌, ◌≤◌, Bool, true, false, List, length, All, IsSome, refl, sym, ap, subst, ◌∙◌, arith}
use Rattle.std.proofs.lemmas.List.FromFn.{length-map-range_with_len}
use Rattle.bb_base.specs.Net.{driven, reads, times, IsNetlist}
use Rattle.bb_base.specs.Named.{IsNamed, IsConsistent}
use Rattle.bb_sample.specs.Sample.{input_count, output_count, flop_count, is_clocked, net_count, sample_clock, flop_at, sample_netlist, sample_of}
use Rattle.bb_sample.proofs.NetLemmas.{driven_long, driven_once, driven_below, sample_driven}
use Rattle.bb_sample.proofs.GateLemmas.{reads_below, all_fit}
use Rattle.bb_sample.proofs.StageLemmas.{whole, laid_fits, laid_is, nets_laid, clocked_some, clocked_none}
use Rattle.bb_sample.proofs.NameLemmas.{names_apart, variables_apart}

-- as many nets are driven as there are
driven_count : (number : ℕ) → length (driven (sample_netlist number)) ≡ net_count number
driven_count number = ap length (sample_driven number) ∙ driven_long input_count (output_count number) (flop_count number) number

pub names_count : (number : ℕ) → length (sample_of number).names ≡ net_count number
names_count number = nets_laid number (whole (is_clocked number) number) (sym (laid_is number))

drives_below : (number : ℕ) → All (λ net. net < net_count number) (driven (sample_netlist number))
drives_below number = subst (All (λ net. net < net_count number)) (sym (sample_driven number)) (driven_below input_count (output_count number) (flop_count number) number)

below_count : (number count : ℕ) (nets : List ℕ) → net_count number ≡ count → All (λ net. net < net_count number) nets → All (λ net. net < count) nets
below_count number count nets e h = subst (λ k. All (λ net. net < k) nets) e h

-- names, places and nets fit together
fits : (number : ℕ) → 1 ≤ number → number ≤ 65536 → IsConsistent (sample_of number)
fits number some few =
    let h : IsConsistent (whole (is_clocked number) number) = subst IsConsistent (laid_is number) (laid_fits number some few) in
    let count = sym (names_count number) in
    record {
      module_name = h.module_name;
      entries = h.entries;
      ports_first = h.ports_first;
      clock = h.clock;
      bits = h.bits;
      apart_from_clock = h.apart_from_clock;
      inputs = h.inputs;
      outputs = h.outputs;
      ports = h.ports;
      drives_nets = below_count number (length (sample_of number).names) (driven (sample_netlist number)) count (drives_below number);
      reads_nets = below_count number (length (sample_of number).names) (reads (sample_netlist number)) count (reads_below number some);
      arities = all_fit number;
    }

-- every net has one driver
pub one_driver : (number net : ℕ) → net < net_count number → times net (driven (sample_netlist number)) ≡ 1
one_driver number net within = ap (times net) (sample_driven number) ∙ driven_once input_count (output_count number) (flop_count number) number net within

pub netlist_fits : (number : ℕ) → 1 ≤ number → number ≤ 65536 → IsNetlist (sample_netlist number)
netlist_fits number some few =
    let h = fits number some few in
    let count = sym (driven_count number) in
    record {
      one_driver = λ net within. one_driver number net (omega (arith, within, count));
      drives_nets = below_count number (length (driven (sample_netlist number))) (driven (sample_netlist number)) count (drives_below number);
      reads_nets = below_count number (length (driven (sample_netlist number))) (reads (sample_netlist number)) count (reads_below number some);
      ports = h.ports;
      arities = all_fit number;
    }

-- there is a clock exactly where there is a flip-flop
flops_long : (number : ℕ) → length (sample_netlist number).flops ≡ flop_count number
flops_long number = length-map-range_with_len (flop_at number) 0 (flop_count number)

clocked_after : (b : Bool) (number : ℕ) → is_clocked number ≡ b → IsSome (sample_clock b) ↔ (0 < length (sample_netlist number).flops)
clocked_after true number e = (λ h. omega (arith, flops_long number, clocked_some number e), λ h. refl)
clocked_after false number e = (λ h. absurd (cc h), λ h. absurd (omega (arith, h, flops_long number, clocked_none number e)))

pub clocked : (number : ℕ) → IsSome (sample_of number).clock ↔ (0 < length (sample_of number).netlist.flops)
clocked number = clocked_after (is_clocked number) number refl

pub sample_named : (number : ℕ) → 1 ≤ number → number ≤ 65536 → IsNamed (sample_of number)
sample_named number some few = record {
  consistent = fits number some few;
  netlist = netlist_fits number some few;
  names = names_count number ∙ sym (driven_count number);
  alike = names_apart number;
  apart = variables_apart (is_clocked number) number;
  clocked = clocked number;
}
