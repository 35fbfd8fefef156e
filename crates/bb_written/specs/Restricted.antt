-- Outside a test the written netlist runs as the original does.
use Rattle.std.specs.Prelude.{◌≡◌, ℕ, List, [], ◌∷◌, length, map, take, Bool, true, false, ◌==◌, ◌&&◌}
use Rattle.std.specs.List.{AllByRecursion, list_any}
use Rattle.bb_base.specs.Net.{Netlist, Flop}
use Rattle.bb_terms.specs.declared.wire.Wire.{Wire}
use Rattle.bb_terms.specs.declared.wire.Wire.TheVariants.{Kept, Test}
use Rattle.bb_base.specs.Run.{IsRun, states}
use Rattle.bb_terms.specs.Kinds.{is_flop}
use Rattle.bb_terms.specs.Lines.{d_of}
use Rattle.bb_terms.specs.Plan.{PlanValue, chain}
use Rattle.bb_written.specs.Written.{written_netlist}

-- the bits of the original's nets
abbrev pub original_bits : (Wire → Bool) → ℕ → Bool
original_bits v n = v (Kept n)

abbrev pub IsOutsideTest : List (Wire → Bool) → Type 0
IsOutsideTest vs = AllByRecursion (λ v. v Test ≡ false) vs

-- the original's state in the first cycle
abbrev pub first_state : Netlist ℕ → List (Wire → Bool) → List Bool
first_state a [] = []
first_state a (v ∷ vs) = states a (original_bits v)

-- each flip-flop is a State or Split cell, and has its own q
pub record KeepsFlops (a : Netlist ℕ) (p : PlanValue) : Type 0 where
  pub has : AllByRecursion (λ (f : Flop ℕ). list_any (λ c. is_flop c.kind && (c.net == f.q)) (chain p) ≡ true) a.flops
  pub own : AllByRecursion (λ (f : Flop ℕ). d_of a.flops f.q ≡ f.d) a.flops

abbrev pub RunsAsOriginal : Netlist ℕ → PlanValue → Type 0
RunsAsOriginal a p =
    (s : List Bool) (is : List (List Bool)) (vs : List (Wire → Bool)) → IsRun (written_netlist a p) s is vs → IsOutsideTest vs
    → IsRun a (first_state a vs) (map (take (length a.inputs)) is) (map original_bits vs)
