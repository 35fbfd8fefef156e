-- The lines of flip-flops and of gates' nets, and their leaves by a table of stops. No public contract cites this.
use Rattle.std.specs.Prelude.{◌≡◌, ℕ, ◌≤◌, Bool, List, [], ◌∷◌, length, nat_eq}
use Rattle.std.specs.List.{list_any}
use Rattle.bb_base.specs.Net.{Gate, Flop, Netlist}
use Rattle.bb_terms.specs.Paths.{Start}
use Rattle.bb_terms.specs.Support.{AreLeaves, stop_at}
use Rattle.bb_terms.specs.Function.{StandsIn}
use Rattle.bb_terms.specs.Cuts.{is_stop_with}
use Rattle.bb_terms.specs.Lines.{StartsBehind}

-- no line has more than 16 leaves
abbrev pub AreNarrow : List (Gate ℕ) → (ℕ → Bool) → Type 0
AreNarrow gates stop = (from : Start ℕ) (leaves : List ℕ) → StandsIn gates from → AreLeaves gates stop from leaves → length leaves ≤ 16

-- the table has the stops
abbrev pub AreStopsOf : Netlist ℕ → List ℕ → List Bool → Type 0
AreStopsOf a cuts stops = (net : ℕ) → stop_at stops net ≡ is_stop_with a.gates cuts net

-- these are the leaves of the line of a gate's net
pub record IsLineBehind (a : Netlist ℕ) (stop : ℕ → Bool) (net : ℕ) (leaves : List ℕ) : Type 0 where
  pub start : Start ℕ
  pub begins : StartsBehind a net start
  pub are : AreLeaves a.gates stop start leaves

-- a flip-flop is self-reading where its q is among the leaves of its line
abbrev pub reading_in : List (Flop ℕ) → List (List ℕ) → List Bool
reading_in [] lines = []
reading_in (f ∷ flops) [] = []
reading_in (f ∷ flops) (leaves ∷ lines) = list_any (nat_eq f.q) leaves ∷ reading_in flops lines
