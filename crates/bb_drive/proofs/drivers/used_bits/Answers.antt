use Rattle.std.proofs.Common.{arith, ℕ, ◌≡◌, ◌-◌, ◌+◌, ◌||◌, ◌∙◌, ◌++◌, ◌∷◌, [], List, ap, true, false, length, slice_index, append_assoc}
use Rattle.std.specs.Prelude.{nat_lt, filter}
use Rattle.std.specs.List.{range_with_len}
use Rattle.std.proofs.lemmas.Bool.Decides.{nat_tests}
use Rattle.bb_drive.proofs.Tallied.{filter_skip, filter_keep}
use Rattle.bb_drive.proofs.drivers.used_bits.Goals as goal
use Rattle.bb_drive.proofs.drivers.used_bits.Goals.{then-drivers-bit-gt0+in_ok-push, then-drivers-bit-gt0-via-then-drivers-bit-gt0, then-drivers-bit-gt0-via-else-drivers-bit-gt0+then-readers-bit-gt0, else-drivers-bit-gt0+else-readers-bit-gt0}

pub loop-bit-preserved : goal.loop-bit-preserved
loop-bit-preserved c =
    let test = λ (m : ℕ). nat_lt 0 (slice_index c.args.drivers.now m) || nat_lt 0 (slice_index c.args.readers.now m) in
    let n : ℕ = length c.args.drivers.now in
    let k : ℕ = c.loop-bit.bit in
    let rest : List ℕ = filter test (range_with_len (k + 1) (n - (k + 1))) in
    elim c.if-drivers-bit-gt0.branch [
      | then-drivers-bit-gt0+in_ok-push w ↦
          let holds : test k ≡ true =
          elim w.then-drivers-bit-gt0.branch [ then-drivers-bit-gt0-via-then-drivers-bit-gt0 x ↦ grind (arith, nat_tests, x.if-drivers-bit-gt0.true) | then-drivers-bit-gt0-via-else-drivers-bit-gt0+then-readers-bit-gt0 x ↦ grind (arith, nat_tests, x.if-readers-bit-gt0.true) ] in
          let new : c.if-drivers-bit-gt0.bits.items ≡ c.loop-bit.bits.items ++ k ∷ [] = grind (arith, w.bits-is, w.in_ok-push.ensures.items) in
          ap (λ x. x ++ rest) new ∙ (append_assoc c.loop-bit.bits.items (k ∷ []) rest ∙ (ap (λ x. c.loop-bit.bits.items ++ x) (filter_keep test n k c.loop-bit-test.true holds) ∙ c.loop-bit.invariant))
      | else-drivers-bit-gt0+else-readers-bit-gt0 w ↦
          let fails : test k ≡ false = grind (arith, nat_tests, w.if-drivers-bit-gt0.false, w.if-readers-bit-gt0.false) in
          ap (λ x. x.items ++ rest) w.bits-is ∙ (ap (λ x. c.loop-bit.bits.items ++ x) (filter_skip test n k c.loop-bit-test.true fails) ∙ c.loop-bit.invariant)
    ]
