-- Changed machines, and test runs of the written netlist.
use Rattle.std.specs.Prelude.{◌≡◌, ℕ, ◌<◌, Bool, true, false, List, [], ◌∷◌, map, length, None}
use Rattle.std.specs.List.{AllByRecursion}
use Rattle.bb_base.specs.Net.{Gate, Netlist}
use Rattle.bb_terms.specs.Reads.{read}
use Rattle.bb_terms.specs.Change.{Change, gives_by}
use Rattle.bb_base.specs.Run.{at}
use Rattle.bb_terms.specs.declared.wire.Wire.{Wire}
use Rattle.bb_terms.specs.declared.wire.Wire.TheVariants.{Kept, Test, Init}
use Rattle.bb_base.specs.Run.{IsRunBy}
use Rattle.bb_terms.specs.Plan.{PlanValue}
use Rattle.bb_written.specs.Trace.{IsTestTrace}
use Rattle.bb_written.specs.Written.{written_netlist}

-- the change at the nets of the same names
abbrev pub on_wires : Change ℕ → Change Wire
on_wires f (Kept n) = f n
on_wires f w = None

-- a test run's inputs
abbrev pub IsTestOf : List (Wire → Bool) → Type 0
IsTestOf [] = Unit {0}
IsTestOf (v ∷ vs) = ((v Test ≡ true) × (v Init ≡ true)) × AllByRecursion (λ w. (w Test ≡ true) × (w Init ≡ false)) vs

-- the original's gates meet their equations, by this meaning
abbrev pub KeptMeet : (Gate ℕ → List Bool → Bool) → Netlist ℕ → PlanValue → (Wire → Bool) → Type 0
KeptMeet gives a p v = AllByRecursion (λ (g : Gate ℕ). v (Kept g.out) ≡ gives g (map v (map (read p) g.ins))) a.gates

-- each test run under each change is an added trace in which the original's gates meet the change
pub record IsTraced (f : Change ℕ) (a : Netlist ℕ) (p : PlanValue) (vs : List (Wire → Bool)) : Type 0 where
  pub trace : IsTestTrace a p (length vs) (at vs)
  pub kept : (c : ℕ) → c < length vs → KeptMeet (gives_by f) a p (at vs c)

abbrev pub TestsAreTraces : Netlist ℕ → PlanValue → Type 0
TestsAreTraces a p = (f : Change ℕ) (s : List Bool) (is : List (List Bool)) (vs : List (Wire → Bool)) → IsRunBy (gives_by (on_wires f)) (written_netlist a p) s is vs → IsTestOf vs → IsTraced f a p vs
