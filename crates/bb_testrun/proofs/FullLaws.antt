-- A full walk is back after all its states.
use Rattle.std.proofs.Common.{◌≡◌, ℕ, ◌+◌, ◌^◌, ◌<◌, ◌≤◌, ◌==◌, zero, suc, true, false, sym, ap, ◌∙◌, arith}
use Rattle.std.proofs.lemmas.Bool.Decides.{nat_tests}
use Rattle.bb_terms.specs.Register.{IsMask, IsFullPeriod}
use Rattle.bb_terms.specs.OnBits.{bits_after}
use Rattle.bb_gf2.proofs.Ending.{end_is_last, goes_round}
use Rattle.bb_testrun.specs.Control.{ReturnsAfter}

some_states : (k : ℕ) → 0 < 2 ^ k
some_states zero = omega arith
some_states (suc k) = let rest = some_states k in grind (arith, rest)

pub full_walks_cycle : (k mask : ℕ) → 1 ≤ k → IsMask k mask → IsFullPeriod k mask → ReturnsAfter k mask (2 ^ k)
full_walks_cycle k mask some fits full =
    record {
      some = some_states k;
      back = (let e : 2 ^ k + 0 ≡ 2 ^ k = omega arith in ap (bits_after k mask) (sym e) ∙ goes_round k mask 0 some fits full);
      before = λ t lt. end_is_last k mask t some fits full (omega (arith, lt)) ∙ early t lt;
      at_end = λ t e. end_is_last k mask t some fits full (omega (arith, e)) ∙ (let same : (suc t == 2 ^ k) ≡ true = grind (arith, nat_tests, e) in same);
    }
  where
    early : (t : ℕ) → suc t < 2 ^ k → (suc t == 2 ^ k) ≡ false
    early t lt = grind (arith, nat_tests, lt)
