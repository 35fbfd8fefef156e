-- Bound: the walk back from a line ends at few reads, which are those of the line's leaves in the original.
use Rattle.std.specs.Prelude.{◌≡◌, ◌↔◌, ◌⊎◌, ◌≤◌, ℕ, true, List, [], ◌∷◌, map, length, Contains}
use Rattle.bb_base.specs.Net.{Gate}
use Rattle.bb_base.specs.Named.{Named}
use Rattle.bb_net.specs.Sites.{Site, sited}
use Rattle.bb_terms.specs.Paths.{IsReached}
use Rattle.bb_terms.specs.declared.plan.Cell.{Cell}
use Rattle.bb_terms.specs.Plan.{PlanValue}
use Rattle.bb_terms.specs.Rules.{AreLeavesOf}
use Rattle.bb_selftest.specs.WrittenLines.{read_site, line_site, is_read_site, IsWrittenLeaf}

pub record IsBoundedLine (a b : Named) (p : PlanValue) (c : Cell) : Type 0 where
  -- the walk ends at reads, or at gates without inputs: each net on it is a read or a gate's
  pub ends : (s : Site) → IsReached (sited b).netlist.gates (is_read_site a p) (line_site a p c ∷ []) s → (is_read_site a p s ≡ true) ⊎ ((g : Gate Site) × Contains (sited b).netlist.gates g × (g.out ≡ s))
  -- the line's leaves in the original
  pub leaves : List ℕ
  pub are : AreLeavesOf a.netlist p c leaves
  -- they are few, and their reads are the leaves here
  pub few : length leaves ≤ p.width
  pub same : (s : Site) → IsWrittenLeaf a b p c s ↔ Contains (map (read_site a p) leaves) s
