-- Roles: in a session no register that compacts feeds one that does, and those that generate hold their code bits.
use Rattle.std.specs.Prelude.{◌≡◌, ◌<◌, ◌^◌, ◌&&◌, ℕ, Bool, false, List, length}
use Rattle.bb_base.specs.Places.{EachAt}
use Rattle.bb_base.specs.Net.{Gate}
use Rattle.bb_base.specs.Run.{at}
use Rattle.bb_base.specs.Named.{Named}
use Rattle.bb_net.specs.Sites.{Site}
use Rattle.bb_base.specs.Parity.{code_bit}
use Rattle.bb_terms.specs.Register.{state_after}
use Rattle.bb_terms.specs.declared.plan.Cell.{Cell}
use Rattle.bb_terms.specs.Kinds.{is_source}
use Rattle.bb_terms.specs.Plan.{PlanValue, compacts, IsCell}
use Rattle.bb_terms.specs.Rules.{HasNoConflict}
use Rattle.bb_selftest.specs.WrittenLines.{q_site}
use Rattle.bb_selftest.specs.TestRun.{IsTestRunBy, run_cycle}

pub record KeepsRoles (gives : Gate Site → List Bool → Bool) (a b : Named) (p : PlanValue) : Type 0 where
  -- no register that compacts in a session holds a leaf of a line of one that does, itself included
  pub apart : EachAt p.sessions (λ s session. HasNoConflict a.netlist p session)
  -- in run cycle t a source cell of a register that doesn't compact has its code bit at the state after t steps, and every other cell
  -- of such a register is 0
  pub held : (vs : List (Site → Bool)) → IsTestRunBy gives b vs → (s t i r : ℕ) (c : Cell) → s < length p.sessions → t < 2 ^ p.degree → run_cycle p s t < length vs → IsCell p i r c → compacts p.sessions r s ≡ false
      → at vs (run_cycle p s t) (q_site a i c) ≡ (is_source c.kind && code_bit c.column (state_after p.degree p.mask t))
