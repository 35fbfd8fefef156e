-- The promise: b is a self-test of a by this plan, with these signatures. Outside a test b runs as a does. In every test run each gate
-- of a from which an output or a flip-flop is reached lies in a segment, which reads few leaves, meets every vector of them in its
-- session, and is compacted into the written signature, which comes out.
use Rattle.std.specs.Prelude.{ℕ, List}
use Rattle.bb_base.specs.Run.{by_op}
use Rattle.bb_base.specs.Named.{Named}
use Rattle.bb_net.specs.Sites.{sited}
use Rattle.bb_terms.specs.declared.plan.Cell.{Cell}
use Rattle.bb_terms.specs.Plan.{PlanValue}
use Rattle.bb_normal.specs.Normal.{Normal}
use Rattle.bb_selftest.specs.WrittenLines.{IsObserver}
use Rattle.bb_selftest.specs.Covers.{Covers}
use Rattle.bb_selftest.specs.Bounded.{IsBoundedLine}
use Rattle.bb_selftest.specs.Exhausted.{IsExhausted}
use Rattle.bb_selftest.specs.Roles.{KeepsRoles}
use Rattle.bb_selftest.specs.Signed.{Signs}
use Rattle.bb_selftest.specs.Unloads.{Unloads}

pub record IsSelfTest (a b : Named) (p : PlanValue) (signatures : List (List ℕ)) : Type 0 where
  pub normal : Normal (sited a).netlist (sited b).netlist
  pub cover : Covers a b p
  pub bound : (i r : ℕ) (c : Cell) → IsObserver p i r c → IsBoundedLine a b p c
  pub exhaust : (i r : ℕ) (c : Cell) → IsObserver p i r c → IsExhausted by_op a b p r c
  pub roles : KeepsRoles by_op a b p
  pub sign : Signs a b p signatures
  pub unload : Unloads b p signatures
