-- Unload: the written values come out bit by bit, the chain's last cell first, and nothing else does.
use Rattle.std.specs.Prelude.{◌≡◌, ◌⊎◌, ◌<◌, ◌+◌, ◌-◌, ◌*◌, ◌^◌, ◌++◌, ◌==◌, ℕ, suc, nat_le, Bool, false, List, [], ◌∷◌, length, slice_index_or, if◌then◌else◌}
use Rattle.bb_base.specs.Net.{Gate}
use Rattle.bb_base.specs.Run.{at, by_op}
use Rattle.bb_base.specs.Named.{Named}
use Rattle.bb_net.specs.Sites.{Site}
use Rattle.bb_base.specs.Bits.{bits}
use Rattle.bb_terms.specs.Plan.{PlanValue, RegisterValue, chain}
use Rattle.bb_normal.specs.Normal.{site_so, site_done}
use Rattle.bb_selftest.specs.TestRun.{IsTestRunBy, IsTestRun, unload_cycle}

-- the written value of a register in a session, and 0 where the session doesn't list it
abbrev pub value_of : List ℕ → List ℕ → ℕ → ℕ
value_of [] values r = 0
value_of (x ∷ session) [] r = 0
value_of (x ∷ session) (v ∷ values) r = if x == r then v else value_of session values r

-- the bits of all cells in the written values of a session, in the chain's order, the first register being r
abbrev pub value_bits : List ℕ → List ℕ → ℕ → List RegisterValue → List Bool
value_bits session values r [] = []
value_bits session values r (g ∷ registers) = bits (length g.cells) (value_of session values r) ++ value_bits session values (suc r) registers

-- the bit of cell i in session s
abbrev pub value_bit : PlanValue → List (List ℕ) → ℕ → ℕ → Bool
value_bit p signatures s i = slice_index_or (value_bits (slice_index_or p.sessions s []) (slice_index_or signatures s []) 0 p.registers) i false

-- the cycle is that of a cell in the unloading of a session
pub record IsUnloadCycle (p : PlanValue) (c : ℕ) : Type 0 where
  pub s : ℕ
  pub j : ℕ
  pub session : s < length p.sessions
  pub cell : j < length (chain p)
  pub is : c ≡ unload_cycle p s j

-- in each cycle that is no unload cycle of a cell 0 comes out
abbrev pub IsQuietElsewhere : (Gate Site → List Bool → Bool) → Named → PlanValue → Type 0
IsQuietElsewhere gives b p = (vs : List (Site → Bool)) → IsTestRunBy gives b vs → (c : ℕ) → c < length vs → IsUnloadCycle p c ⊎ (at vs c site_so ≡ false)

-- the end is told from the cycle behind the last session on, and not before
abbrev pub TellsEnd : (Gate Site → List Bool → Bool) → Named → PlanValue → Type 0
TellsEnd gives b p = (vs : List (Site → Bool)) → IsTestRunBy gives b vs → (c : ℕ) → c < length vs → at vs c site_done ≡ nat_le (1 + 2 * length p.sessions * 2 ^ p.degree) c

pub record Unloads (b : Named) (p : PlanValue) (signatures : List (List ℕ)) : Type 0 where
  -- in unload cycle j of a session the cell that stands j before the last comes out
  pub out : (vs : List (Site → Bool)) → IsTestRun b vs → (s j : ℕ) → s < length p.sessions → j < length (chain p) → unload_cycle p s j < length vs
      → at vs (unload_cycle p s j) site_so ≡ value_bit p signatures s (length (chain p) - 1 - j)
  pub quiet : IsQuietElsewhere by_op b p
  pub done : TellsEnd by_op b p
