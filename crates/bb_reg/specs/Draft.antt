-- The cells that a netlist with its cuts needs: sources, and observers with the leaves of their lines, not yet in registers.
use Rattle.std.specs.Prelude.{◌≡◌, ◌↔◌, ℕ, Bool, true, not, List, [], ◌∷◌, ◌++◌, map, filter, if◌then◌else◌}
use Rattle.std.specs.List.{AllZip}
use Rattle.bb_base.specs.Net.{Netlist}
use Rattle.bb_terms.specs.Paths.{Start, AtNet, IsLeaf}
use Rattle.bb_terms.specs.Support.{AreLeaves}
use Rattle.bb_terms.specs.Cuts.{is_stop_with}
use Rattle.bb_terms.specs.declared.kind.Kind.{Kind}
use Rattle.bb_terms.specs.declared.kind.Kind.TheVariants.{Input, State, Split, Cut, Watch, Output}
use Rattle.bb_terms.specs.declared.plan.Cell.{Cell}
use Rattle.bb_terms.specs.Lines.{IsStart}

-- a cell without a column
abbrev pub bare_cell : Kind → ℕ → Cell
bare_cell kind net = record { kind = kind; net = net; column = 0 }

-- the items whose bit is 1
abbrev pub those : {X : Type 0} → List Bool → List X → List X
those [] xs = []
those (b ∷ bits) [] = []
those (b ∷ bits) (x ∷ xs) = if b then x ∷ those bits xs else those bits xs

-- an Input cell for each input, then a Split cell for each self-reading flip-flop
abbrev pub source_cells : Netlist ℕ → (self_reading : List Bool) → List Cell
source_cells a reading = map (bare_cell Input) a.inputs ++ map (λ f. bare_cell Split f.q) (those reading a.flops)

-- a State cell for each other flip-flop, a Watch cell for each self-reading one, a Cut cell for each cut, and an Output cell for
-- each output that a gate drives and that is no cut
abbrev pub observer_cells : Netlist ℕ → List ℕ → (self_reading : List Bool) → List Cell
observer_cells a cuts reading =
    map (λ f. bare_cell State f.q) (those (map not reading) a.flops)
    ++ (map (λ f. bare_cell Watch f.q) (those reading a.flops) ++ (map (bare_cell Cut) cuts ++ map (bare_cell Output) (filter (λ net. not (is_stop_with a.gates cuts net)) a.outputs)))

-- sources, and observers with the leaves of their lines
pub record DraftValue : Type 0 where
  pub sources : List Cell
  pub observers : List Cell
  pub leaves : List (List ℕ)

-- these are the leaves of the cell's line, where walks stop at the cuts
pub record HasLeavesWith (a : Netlist ℕ) (cuts : List ℕ) (c : Cell) (leaves : List ℕ) : Type 0 where
  pub start : Start ℕ
  pub begins : IsStart a c start
  pub are : AreLeaves a.gates (is_stop_with a.gates cuts) start leaves

-- the cells for a netlist with its cuts
pub record AreCells (a : Netlist ℕ) (cuts : List ℕ) (draft : DraftValue) : Type 0 where
  pub reading : List Bool
  -- a flip-flop is self-reading where its q is a leaf of its line
  pub self_reading : AllZip (λ f b. (b ≡ true) ↔ IsLeaf a.gates (is_stop_with a.gates cuts) (AtNet f.d) f.q) a.flops reading
  pub sources_are : draft.sources ≡ source_cells a reading
  pub observers_are : draft.observers ≡ observer_cells a cuts reading
  pub leaves_are : AllZip (HasLeavesWith a cuts) draft.observers draft.leaves
