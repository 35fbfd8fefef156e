use Rattle.std.proofs.Common.{arith, ◌≡◌, ◌<◌, ◌+◌, ◌^◌, ℕ, Bool, List, ◌∷◌, [], drop, ap}
use Rattle.std.proofs.lemmas.Grind.{common_steps}
use Rattle.bb_fault.specs.Work.{Work, make, constant}
use Rattle.bb_scope.specs.declared.value.Bit.{Bit}
use Rattle.bb_scope.specs.declared.value.Bit.TheVariants.{Fixed}
use Rattle.bb_scope.specs.Making.{grounded}
use Rattle.bb_gates.proofs.Growing.{grounded-grows}
use Rattle.bb_gates.proofs.bitwise.grounded.Goals as goal

-- there is a number for a constant's net, where there is one for each net of the operand
fits :
    (bits : List Bit) (i : ℕ) (one : Bool) (w all : Work) → drop i bits ≡ Fixed one ∷ drop (i + 1) bits → (grounded (drop i bits) w).1 ≡ all → all.fresh < 2 ^ 32
    → (make (constant one) [] w).1.fresh < 2 ^ 32
fits bits i one w all here made small =
    omega (arith, ap (λ b. (grounded b w).1.fresh) here, ap (λ (v : Work). v.fresh) made, small, grounded-grows (drop (i + 1) bits) (make (constant one) [] w).1)

pub make-requires : goal.make-requires
make-requires c =
    let bits = c.args.bits.now in
    let i = c.loop-bit.bit-index in
    let one = c.in-Fixed.one in
    let here : drop i bits ≡ Fixed one ∷ drop (i + 1) bits = grind (arith, common_steps) in
    record { room = fits bits i one c.loop-bit.work (grounded bits c.args.work.now).1 here c.loop-bit.invariant.work c.requires.room }
