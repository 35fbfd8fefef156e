-- each vector of generating leaves comes in the run cycles
use Rattle.std.proofs.Common.{◌≡◌, ℕ, ◌≤◌, ◌^◌, length, sym, ap, ◌∙◌}
use Rattle.bb_base.specs.Net.{Netlist}
use Rattle.bb_base.specs.Parity.{code_bit}
use Rattle.bb_terms.specs.OnBits.{bits_after}
use Rattle.bb_terms.specs.Register.{IsFullPeriod, state_after}
use Rattle.bb_terms.specs.Plan.{PlanValue, chain}
use Rattle.bb_testrun.specs.Control.{ReturnsAfter}
use Rattle.bb_base.specs.Parity.{code_of_bits}
use Rattle.bb_testrun.specs.Reading.{MeetsAll}
use Rattle.bb_gf2.proofs.BitLaws.{code_of_bits-bits}
use Rattle.bb_gf2.proofs.BitSteps.{bits-state}
use Rattle.bb_gf2.proofs.Orbit.{state_below, vector_comes}
use Rattle.bb_base.proofs.Lists.{same_map}
use Rattle.bb_testrun.proofs.ReadCodes.{reads_codes}

code_at_step : (k mask t : ℕ) → 1 ≤ k → (c : ℕ) → code_of_bits c (bits_after k mask t) ≡ code_bit c (state_after k mask t)
code_at_step k mask t some c = ap (code_of_bits c) (sym (bits-state k mask t some)) ∙ code_of_bits-bits k c (state_after k mask t) (state_below k mask t)

pub meets_all : (a : Netlist ℕ) (p : PlanValue) → 1 ≤ p.degree → IsFullPeriod p.degree p.mask → ReturnsAfter p.degree p.mask (2 ^ p.degree) → length (chain p) ≤ 2 ^ p.degree → MeetsAll a p
meets_all a p some full cycle fits s leaves columns duals more g dual below u e =
    let t = vector_comes p.degree p.mask columns duals u full dual below e in (
      t.0,
      t.1,
      λ n v h lt. reads_codes a p (2 ^ p.degree) cycle fits s t.0 leaves columns more t.1 g n v h lt
          ∙ same_map (λ c. code_of_bits c (bits_after p.degree p.mask t.0)) (λ c. code_bit c (state_after p.degree p.mask t.0)) (code_at_step p.degree p.mask t.0 some) columns ∙ t.2,
    )
