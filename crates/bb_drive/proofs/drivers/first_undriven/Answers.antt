use Rattle.std.proofs.Common.{arith, ℕ, ◌≡◌, ◌&&◌, ◌∙◌, false, length, slice_index}
use Rattle.std.specs.Prelude.{nat_eq, nat_lt}
use Rattle.std.proofs.lemmas.Bool.Decides.{nat_tests}
use Rattle.bb_drive.proofs.Tallied.{find_skip}
use Rattle.bb_drive.proofs.drivers.first_undriven.Goals as goal
use Rattle.bb_drive.proofs.drivers.first_undriven.Goals.{else-drivers-bit-eq0-via-then-drivers-bit-eq0+else-readers-bit-gt0, else-drivers-bit-eq0-via-else-drivers-bit-eq0}

pub loop-bit-preserved : goal.loop-bit-preserved
loop-bit-preserved c =
    let test = λ (m : ℕ). nat_eq (slice_index c.args.drivers.now m) 0 && nat_lt 0 (slice_index c.args.readers.now m) in
    let fails : test c.loop-bit.bit ≡ false =
    elim c.else-drivers-bit-eq0.branch [ else-drivers-bit-eq0-via-then-drivers-bit-eq0+else-readers-bit-gt0 w ↦ grind (arith, nat_tests, w.if-readers-bit-gt0.false) | else-drivers-bit-eq0-via-else-drivers-bit-eq0 w ↦ grind (arith, nat_tests, w.if-drivers-bit-eq0.false) ] in
    find_skip test (length c.args.drivers.now) c.loop-bit.bit c.loop-bit-test.true fails ∙ c.loop-bit.invariant
