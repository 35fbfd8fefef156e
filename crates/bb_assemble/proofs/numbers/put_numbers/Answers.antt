use Rattle.std.proofs.Common.{◌≡◌, ◌<◌, ◌+◌, ◌-◌, ℕ, length, drop, slice_get, get_or, Some, subst, arith}
use Rattle.std.proofs.Math.ListN.{length-set}
use Rattle.std.proofs.lemmas.Option.{slice_get-get_or}
use Rattle.bb_net.proofs.VariableLemmas.{all_at}
use Rattle.bb_drive.specs.NamedOf.{place_among}
use Rattle.bb_assemble.proofs.NumberLaws.{put_step}
use Rattle.bb_assemble.proofs.numbers.put_numbers.Goals as goal

pub bits-preserved : goal.bits-preserved
bits-preserved c =
    let i : ℕ = c.bits.index - 1 in
    let kept = c.args.kept.now in
    let bit : ℕ = get_or kept i 0 in
    let at : slice_get kept i ≡ Some bit = slice_get-get_or kept i 0 (omega arith) in
    let within : bit < length c.bits.numbers = omega (arith, all_at (λ b. b < length c.args.numbers.now) kept i bit c.requires.within at) in
    let back : c.bits.index ≡ i + 1 = omega arith in
    record {
      within = omega arith;
      each = λ b less. put_step c.bits.numbers kept i bit b at within
          (subst (λ k. slice_get c.bits.numbers b ≡ Some (place_among (drop k kept) b + k)) back (c.bits.invariant.each b (omega (arith, length-set c.bits.numbers bit i))));
    }
