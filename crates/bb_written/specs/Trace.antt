-- Traces of the added rows in a test: nothing is asked of the original's gates.
use Rattle.std.specs.Prelude.{◌≡◌, ℕ, ◌<◌, suc, Bool, true, false}
use Rattle.bb_base.specs.Net.{Flop, Netlist}
use Rattle.bb_base.specs.Run.{by_op}
use Rattle.bb_base.specs.Run.{IsTrace}
use Rattle.bb_terms.specs.Plan.{PlanValue}
use Rattle.bb_terms.specs.declared.wire.Wire.{Wire}
use Rattle.bb_terms.specs.declared.wire.Wire.TheVariants.{Test, Init}
use Rattle.bb_written.specs.Cells.{flops}
use Rattle.bb_written.specs.Written.{test_gates}

-- the flip-flop takes the bit of d of the cycle before
abbrev pub TakesBit : (Wire → Bool) → (Wire → Bool) → Flop Wire → Type 0
TakesBit v w f = w f.q ≡ v f.d

-- so many cycles of a test, in which cycle c gives the nets the bits v c
pub record IsTestTrace (a : Netlist ℕ) (p : PlanValue) (n : ℕ) (v : ℕ → Wire → Bool) : Type 0 where
  pub start : 0 < n → (v 0 Test ≡ true) × (v 0 Init ≡ true)
  pub later : (c : ℕ) → suc c < n → (v (suc c) Test ≡ true) × (v (suc c) Init ≡ false)
  pub trace : IsTrace by_op (test_gates a p) (flops p) n v
