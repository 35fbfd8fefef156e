-- Test runs of a written netlist whose original gates are changed: what holds of each of them, and where a change shows.
use Rattle.std.specs.Prelude.{◌≡◌, ◌≢◌, ◌<◌, ◌+◌, ◌^◌, ◌&&◌, ℕ, suc, Bool, true, List, length}
use Rattle.bb_base.specs.Net.{Gate}
use Rattle.bb_base.specs.Run.{at, by_op}
use Rattle.bb_base.specs.Named.{Named}
use Rattle.bb_net.specs.Sites.{Site}
use Rattle.bb_terms.specs.Register.{state_after}
use Rattle.bb_terms.specs.Paths.{Start}
use Rattle.bb_terms.specs.Function.{IsBitOf}
use Rattle.bb_terms.specs.Change.{Change, gives_by}
use Rattle.bb_terms.specs.declared.plan.Cell.{Cell}
use Rattle.bb_terms.specs.Plan.{PlanValue, chain, compacts, IsCell}
use Rattle.bb_terms.specs.Lines.{IsStart, IsLeafOf, is_stop}
use Rattle.bb_terms.specs.Signatures.{code_at}
use Rattle.bb_normal.specs.Normal.{site_so}
use Rattle.bb_selftest.specs.WrittenLines.{IsObserver, q_site, read_site, line_site, sited_gate}
use Rattle.bb_selftest.specs.TestRun.{IsTestRunBy, IsTestRun, run_cycle, unload_cycle}
use Rattle.bb_selftest.specs.Exhausted.{IsExhausted}
use Rattle.bb_selftest.specs.Roles.{KeepsRoles}
use Rattle.bb_selftest.specs.Signed.{HoldsSignatures}
use Rattle.bb_selftest.specs.Unloads.{IsQuietElsewhere, TellsEnd}

-- in each cycle a line is its segment's function of what is read of its leaves
abbrev pub LinesFollow : (Gate Site → List Bool → Bool) → Named → Named → PlanValue → Type 0
LinesFollow gives a b p =
    (vs : List (Site → Bool)) → IsTestRunBy gives b vs → (c i r : ℕ) (cell : Cell) (start : Start ℕ) → c < length vs → IsObserver p i r cell → IsStart a.netlist cell start
    → IsBitOf (λ g. gives (sited_gate a p g)) a.netlist.gates (is_stop a.netlist p) start (λ net. at vs c (read_site a p net)) (at vs c (line_site a p cell))

-- what is read of a line's leaves are their code bits in the run cycles of each session in which its register compacts
abbrev pub LeavesAreCoded : (Gate Site → List Bool → Bool) → Named → Named → PlanValue → Type 0
LeavesAreCoded gives a b p =
    (vs : List (Site → Bool)) → IsTestRunBy gives b vs → (s t i r net : ℕ) (cell : Cell) → t < 2 ^ p.degree → run_cycle p s t < length vs → IsObserver p i r cell → compacts p.sessions r s ≡ true
    → IsLeafOf a.netlist p cell net → at vs (run_cycle p s t) (read_site a p net) ≡ code_at p (state_after p.degree p.mask t) net

-- what a compacting register holds when its run is over comes out, and 0 of the others
abbrev pub CellsComeOut : (Gate Site → List Bool → Bool) → Named → Named → PlanValue → Type 0
CellsComeOut gives a b p =
    (vs : List (Site → Bool)) → IsTestRunBy gives b vs → (s j i r : ℕ) (c : Cell) → s < length p.sessions → IsCell p i r c → i + suc j ≡ length (chain p) → unload_cycle p s j < length vs
    → at vs (unload_cycle p s j) site_so ≡ (compacts p.sessions r s && at vs (unload_cycle p s 0) (q_site a i c))

-- test runs of b, whatever the original's gates give
pub record IsTestedBy (gives : Gate Site → List Bool → Bool) (a b : Named) (p : PlanValue) : Type 0 where
  pub lines : LinesFollow gives a b p
  pub codes : LeavesAreCoded gives a b p
  pub exhaust : (i r : ℕ) (c : Cell) → IsObserver p i r c → IsExhausted gives a b p r c
  pub roles : KeepsRoles gives a b p
  pub holds : HoldsSignatures gives a b p
  pub out : CellsComeOut gives a b p
  pub quiet : IsQuietElsewhere gives b p
  pub done : TellsEnd gives b p

-- in run cycle t of session s the line differs between each test run of b and each of the changed b
abbrev pub DiffersAt : Change Site → Named → Named → PlanValue → Cell → ℕ → ℕ → Type 0
DiffersAt f a b p c s t =
    (vs ws : List (Site → Bool)) → IsTestRun b vs → IsTestRunBy (gives_by f) b ws → run_cycle p s t < length vs → run_cycle p s t < length ws
    → at ws (run_cycle p s t) (line_site a p c) ≢ at vs (run_cycle p s t) (line_site a p c)

-- where the change shows in a segment's function it shows at the line, at a run cycle that is the same for all test runs of both
abbrev pub ShowsChange : Change Site → Named → Named → PlanValue → ℕ → Cell → Type 0
ShowsChange f a b p r c =
    (start : Start ℕ) → IsStart a.netlist c start → (u : ℕ → Bool) (plain changed : Bool) → IsBitOf by_op a.netlist.gates (is_stop a.netlist p) start u plain
    → IsBitOf (λ g. gives_by f (sited_gate a p g)) a.netlist.gates (is_stop a.netlist p) start u changed → changed ≢ plain
    → (s : ℕ) → compacts p.sessions r s ≡ true → (t : ℕ) × (t < 2 ^ p.degree) × DiffersAt f a b p c s t
