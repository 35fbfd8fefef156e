-- Sign: a register that compacts holds the signature of its own lines so far, and the written value is that of all run cycles.
use Rattle.std.specs.Prelude.{◌≡◌, ◌<◌, ◌≤◌, ◌^◌, ℕ, Bool, true, List, length, map, take, Some, slice_get}
use Rattle.std.specs.List.{AllZip, flat_map}
use Rattle.bb_base.specs.Net.{Gate}
use Rattle.bb_base.specs.Run.{at, by_op}
use Rattle.bb_base.specs.Named.{Named}
use Rattle.bb_net.specs.Sites.{Site}
use Rattle.bb_base.specs.Bits.{from_bits}
use Rattle.bb_terms.specs.Signature.{signature}
use Rattle.bb_terms.specs.Plan.{PlanValue, RegisterValue, compacts}
use Rattle.bb_testrun.specs.SignatureSoFar.{lines_until}
use Rattle.bb_selftest.specs.WrittenLines.{q_sites_from, line_site}
use Rattle.bb_selftest.specs.TestRun.{IsTestRunBy, IsTestRun, run_cycle, unload_cycle}

-- the bits of a register's lines in run cycle t of session s
abbrev pub lines_at : Named → PlanValue → List (Site → Bool) → ℕ → RegisterValue → ℕ → List Bool
lines_at a p vs s g t = map (λ c. at vs (run_cycle p s t) (line_site a p c)) g.cells

-- the signature of a register's lines in the first t run cycles of session s
abbrev pub signature_until : Named → PlanValue → List (Site → Bool) → ℕ → RegisterValue → ℕ → List Bool
signature_until a p vs s g t = signature (length g.cells) g.mask (lines_until (lines_at a p vs s g) t)

-- register r is g, and its first cell is cell i of the chain
pub record IsRegisterAt (p : PlanValue) (i r : ℕ) (g : RegisterValue) : Type 0 where
  pub stands : slice_get p.registers r ≡ Some g
  pub first : i ≡ length (flat_map (λ g. g.cells) (take r p.registers))

-- in each run cycle a register that compacts holds the signature of its lines in the run cycles of the session before that one
abbrev pub HoldsSignatures : (Gate Site → List Bool → Bool) → Named → Named → PlanValue → Type 0
HoldsSignatures gives a b p =
    (vs : List (Site → Bool)) → IsTestRunBy gives b vs → (s t i r : ℕ) (g : RegisterValue) → t < 2 ^ p.degree → run_cycle p s t < length vs → IsRegisterAt p i r g → compacts p.sessions r s ≡ true
    → map (at vs (run_cycle p s t)) (q_sites_from a i g.cells) ≡ signature_until a p vs s g t

-- item j of session s is register r, and this is its written value
pub record IsWrittenValue (p : PlanValue) (signatures : List (List ℕ)) (s j r written : ℕ) : Type 0 where
  pub session : List ℕ
  pub session_stands : slice_get p.sessions s ≡ Some session
  pub listed : slice_get session j ≡ Some r
  pub values : List ℕ
  pub values_stand : slice_get signatures s ≡ Some values
  pub is : slice_get values j ≡ Some written

pub record Signs (a b : Named) (p : PlanValue) (signatures : List (List ℕ)) : Type 0 where
  pub running : HoldsSignatures by_op a b p
  -- each session has a value for each of its registers, in its order
  pub one_each : AllZip (λ session values. length session ≡ length values) p.sessions signatures
  -- which is the signature of the lines in all run cycles of the session, in each test run that is as long
  pub written : (s j r written : ℕ) (g : RegisterValue) → IsWrittenValue p signatures s j r written → slice_get p.registers r ≡ Some g
      → (vs : List (Site → Bool)) → IsTestRun b vs → unload_cycle p s 0 ≤ length vs → written ≡ from_bits (signature_until a p vs s g (2 ^ p.degree))
