use Rattle.std.proofs.Common.{arith, ◌≡◌, ℕ, suc, ◌<◌, ◌+◌, ◌-◌, ◌∷◌, refl}
use Rattle.std.proofs.lemmas.Grind.{common_steps}
use Rattle.std.specs.List.{range_with_len}
use Rattle.bb_gates.proofs.prims.add_bits.Goals as goal

one_less : (n k : ℕ) → k < n → n - k ≡ suc (n - (k + 1))
one_less n k h = omega arith

range_next : (n k : ℕ) → k < n → range_with_len k (n - k) ≡ k ∷ range_with_len (k + 1) (n - (k + 1))
range_next n k h = rw (one_less n k h) refl

pub loop-bit-preserved : goal.loop-bit-preserved
loop-bit-preserved c =
    let e = range_next c.args.bits.end c.loop-bit.bit c.loop-bit-test.true in
    grind (arith, common_steps, e, c.loop-bit.invariant, c.in_ok-push.ensures.items)
