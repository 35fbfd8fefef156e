-- The controller, by bits and then by cycle numbers.
use Rattle.std.specs.Prelude.{◌≡◌, ℕ, ◌<◌, ◌≤◌, zero, suc, min, Bool, true, false, ◌&&◌, List, map, length, ◌==◌, if◌then◌else◌}
use Rattle.bb_terms.specs.OnBits.{next_bits, zeros, bits_after, at_last}
use Rattle.bb_terms.specs.Controller.{register_word}
use Rattle.bb_terms.specs.declared.wire.Wire.{Wire}
use Rattle.bb_terms.specs.declared.wire.Wire.TheVariants.{Phase, Ring}
use Rattle.bb_base.specs.Booleans.{xor}
use Rattle.bb_terms.specs.Plan.{PlanValue}

pub record Control : Type 0 where
  pub xs : List Bool
  pub late : Bool
  pub ring : ℕ

abbrev pub control_step : ℕ → Control → Control
control_step mask c =
    record {
      xs = next_bits mask c.xs;
      late = xor c.late (at_last c.xs);
      ring = if c.late && at_last c.xs then suc c.ring else c.ring;
    }

abbrev pub control_start : ℕ → Control
control_start k = record { xs = zeros k; late = false; ring = 0 }

abbrev pub control_after : ℕ → ℕ → ℕ → Control
control_after k mask zero = control_start k
control_after k mask (suc t) = control_step mask (control_after k mask t)

-- the controller's flip-flops have these bits
pub record ControlHolds (p : PlanValue) (v : Wire → Bool) (c : Control) : Type 0 where
  pub xs : map v (register_word p) ≡ c.xs
  pub late : v Phase ≡ c.late
  pub ring : (s : ℕ) → s ≤ length p.sessions → v (Ring s) ≡ (s == min c.ring (length p.sessions))

-- the walk first returns to 0 after size steps
pub record ReturnsAfter (k mask size : ℕ) : Type 0 where
  pub some : 0 < size
  pub back : bits_after k mask size ≡ zeros k
  pub before : (t : ℕ) → suc t < size → at_last (bits_after k mask t) ≡ false
  pub at_end : (t : ℕ) → suc t ≡ size → at_last (bits_after k mask t) ≡ true
