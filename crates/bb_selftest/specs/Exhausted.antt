-- Exhaust: each vector of a line's leaves comes at a run cycle that is the same for all test runs.
use Rattle.std.specs.Prelude.{◌≡◌, ◌<◌, ◌^◌, ℕ, Bool, true, List, length}
use Rattle.bb_base.specs.Net.{Gate}
use Rattle.bb_base.specs.Run.{at}
use Rattle.bb_base.specs.Named.{Named}
use Rattle.bb_net.specs.Sites.{Site}
use Rattle.bb_terms.specs.declared.plan.Cell.{Cell}
use Rattle.bb_terms.specs.Plan.{PlanValue, compacts}
use Rattle.bb_selftest.specs.WrittenLines.{IsWrittenLeaf}
use Rattle.bb_selftest.specs.TestRun.{IsTestRunBy, run_cycle}

-- in run cycle t of session s of each test run the line's leaves have these bits
abbrev pub ComesAt : (Gate Site → List Bool → Bool) → Named → Named → PlanValue → Cell → ℕ → (Site → Bool) → ℕ → Type 0
ComesAt gives a b p c s u t =
    (vs : List (Site → Bool)) → IsTestRunBy gives b vs → run_cycle p s t < length vs → (leaf : Site) → IsWrittenLeaf a b p c leaf → at vs (run_cycle p s t) leaf ≡ u leaf

-- the line of a cell of register r
pub record IsExhausted (gives : Gate Site → List Bool → Bool) (a b : Named) (p : PlanValue) (r : ℕ) (c : Cell) : Type 0 where
  -- the register compacts in some session
  pub some : (s : ℕ) × (compacts p.sessions r s ≡ true)
  -- and in each of these every vector comes
  pub each : (s : ℕ) → compacts p.sessions r s ≡ true → (u : Site → Bool) → (t : ℕ) × (t < 2 ^ p.degree) × ComesAt gives a b p c s u t
