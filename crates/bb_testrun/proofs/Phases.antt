-- where the controller stands, by cycle numbers
use Rattle.std.proofs.Common.{◌≡◌, ℕ, ◌+◌, ◌*◌, ◌<◌, zero, suc, List, Bool, true, false, not, ◌&&◌, if◌then◌else◌, refl, sym, ap, ◌∙◌, subst, arith}
use Rattle.bb_terms.specs.OnBits.{next_bits, zeros, bits_after}
use Rattle.bb_base.specs.Booleans.{xor}
use Rattle.bb_testrun.specs.Control.{Control, control_step, control_after, ReturnsAfter}
use Rattle.bb_terms.specs.OnBits.{at_last}

pub record At (c : Control) (xs : List Bool) (late : Bool) (ring : ℕ) : Type 0 where
  pub xs_are : c.xs ≡ xs
  pub late_is : c.late ≡ late
  pub ring_is : c.ring ≡ ring

and_no : (b : Bool) → (b && false) ≡ false
and_no true = refl
and_no false = refl

and_yes : (b : Bool) → (b && true) ≡ b
and_yes true = refl
and_yes false = refl

xor_no : (b : Bool) → xor b false ≡ b
xor_no true = refl
xor_no false = refl

xor_yes : (b : Bool) → xor b true ≡ not b
xor_yes true = refl
xor_yes false = refl

inside : (mask : ℕ) (xs : List Bool) (late : Bool) (ring : ℕ) (c : Control) → At c xs late ring → at_last xs ≡ false → At (control_step mask c) (next_bits mask xs) late ring
inside mask xs late ring c s e =
    let t : at_last c.xs ≡ false = ap at_last s.xs_are ∙ e in
    record {
      xs_are = ap (next_bits mask) s.xs_are;
      late_is = ap (xor c.late) t ∙ xor_no c.late ∙ s.late_is;
      ring_is = ap (λ b. if b then suc c.ring else c.ring) (ap (λ b. c.late && b) t ∙ and_no c.late) ∙ s.ring_is;
    }

across : (mask : ℕ) (xs : List Bool) (late : Bool) (ring : ℕ) (c : Control) → At c xs late ring → at_last xs ≡ true → At (control_step mask c) (next_bits mask xs) (not late) (if late then suc ring else ring)
across mask xs late ring c s e =
    let t : at_last c.xs ≡ true = ap at_last s.xs_are ∙ e in
    record {
      xs_are = ap (next_bits mask) s.xs_are;
      late_is = ap (xor c.late) t ∙ xor_yes c.late ∙ ap not s.late_is;
      ring_is = ap (λ b. if b then suc c.ring else c.ring) (ap (λ b. c.late && b) t ∙ and_yes c.late) ∙ (λ j. if s.late_is j then suc (s.ring_is j) else s.ring_is j);
    }

-- the controller after so many cycles, from any state
abbrev pub from : ℕ → Control → ℕ → Control
from mask c zero = c
from mask c (suc n) = control_step mask (from mask c n)

walked : (k mask size t : ℕ) (late : Bool) (ring : ℕ) (c : Control) → ReturnsAfter k mask size → At c (zeros k) late ring → t < size → At (from mask c t) (bits_after k mask t) late ring
walked k mask size zero late ring c cycle s h = s
walked k mask size (suc t) late ring c cycle s h = inside mask (bits_after k mask t) late ring (from mask c t) (walked k mask size t late ring c cycle s (omega arith)) (cycle.before t h)

phase : (k mask size : ℕ) (late : Bool) (ring : ℕ) (c : Control) → ReturnsAfter k mask size → At c (zeros k) late ring → At (from mask c size) (zeros k) (not late) (if late then suc ring else ring)
phase k mask size late ring c cycle s = go size refl
  where
    go : (n : ℕ) → n ≡ size → At (from mask c n) (zeros k) (not late) (if late then suc ring else ring)
    go zero e = absurd (omega (arith, cycle.some))
    go (suc n) e =
        let end = across mask (bits_after k mask n) late ring (from mask c n) (walked k mask size n late ring c cycle s (omega arith)) (cycle.at_end n e) in
        record { xs_are = end.xs_are ∙ (ap (bits_after k mask) e ∙ cycle.back); late_is = end.late_is; ring_is = end.ring_is }

after_join : (k mask n m : ℕ) → control_after k mask (m + n) ≡ from mask (control_after k mask m) n
after_join k mask zero m = let e : m + 0 ≡ m = omega arith in ap (control_after k mask) e
after_join k mask (suc n) m = let e : m + suc n ≡ suc (m + n) = omega arith in ap (control_after k mask) e ∙ ap (control_step mask) (after_join k mask n m)

twice : (s size : ℕ) → 2 * suc s * size ≡ (2 * s * size + size) + size
twice s size = grind arith

pub session : (k mask size s : ℕ) → ReturnsAfter k mask size → At (control_after k mask (2 * s * size)) (zeros k) false s
session k mask size zero cycle = subst (λ n. At (control_after k mask n) (zeros k) false 0) (let e : 0 ≡ 2 * 0 * size = omega arith in e) (record { xs_are = refl; late_is = refl; ring_is = refl })
session k mask size (suc s) cycle =
    let two = phase k mask size false s (control_after k mask (2 * s * size)) cycle (session k mask size s cycle) in
    let three = phase k mask size true s (control_after k mask (2 * s * size + size)) cycle (subst (λ c. At c (zeros k) true s) (sym (after_join k mask size (2 * s * size))) two) in
    subst (λ c. At c (zeros k) false (suc s)) (sym (ap (control_after k mask) (twice s size) ∙ after_join k mask size (2 * s * size + size))) three

pub running : (k mask size s t : ℕ) → ReturnsAfter k mask size → t < size → At (control_after k mask (2 * s * size + t)) (bits_after k mask t) false s
running k mask size s t cycle h =
    subst (λ c. At c (bits_after k mask t) false s) (sym (after_join k mask t (2 * s * size))) (walked k mask size t false s (control_after k mask (2 * s * size)) cycle (session k mask size s cycle) h)

pub unloading : (k mask size s t : ℕ) → ReturnsAfter k mask size → t < size → At (control_after k mask (2 * s * size + size + t)) (bits_after k mask t) true s
unloading k mask size s t cycle h =
    let two = phase k mask size false s (control_after k mask (2 * s * size)) cycle (session k mask size s cycle) in
    subst (λ c. At c (bits_after k mask t) true s) (sym (after_join k mask t (2 * s * size + size)))
    (walked k mask size t true s (control_after k mask (2 * s * size + size)) cycle (subst (λ c. At c (zeros k) true s) (sym (after_join k mask size (2 * s * size))) two) h)
