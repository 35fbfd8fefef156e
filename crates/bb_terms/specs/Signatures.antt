-- The signatures of a plan's sessions, in terms of the original netlist alone.
use Rattle.std.specs.Prelude.{◌≡◌, ℕ, ◌<◌, ◌^◌, Bool, List, length, map, Some, slice_get, Contains}
use Rattle.std.specs.List.{AllZip, range_with_len}
use Rattle.bb_base.specs.Net.{Netlist}
use Rattle.bb_base.specs.Run.{by_op}
use Rattle.bb_base.specs.Bits.{from_bits}
use Rattle.bb_base.specs.Parity.{code_bit}
use Rattle.bb_terms.specs.Register.{state_after}
use Rattle.bb_terms.specs.Signature.{signature}
use Rattle.bb_terms.specs.Paths.{Start}
use Rattle.bb_terms.specs.Function.{IsBitOf}
use Rattle.bb_terms.specs.declared.plan.Cell.{Cell}
use Rattle.bb_terms.specs.Plan.{RegisterValue, PlanValue}
use Rattle.bb_terms.specs.Lines.{is_stop, IsStart, column_of}

-- the code bit of a net's source cell at a state
abbrev pub code_at : PlanValue → ℕ → ℕ → Bool
code_at p state net = code_bit (column_of p net) state

-- the cell's line has this bit where its leaves have their code bits at a state
pub record IsLineBit (a : Netlist ℕ) (p : PlanValue) (state : ℕ) (c : Cell) (bit : Bool) : Type 0 where
  pub start : Start ℕ
  pub begins : IsStart a c start
  pub computes : IsBitOf by_op a.gates (is_stop a p) start (code_at p state) bit

-- the register has this signature: that of its lines at each state of the walk
pub record HasSignature (a : Netlist ℕ) (p : PlanValue) (g : RegisterValue) (written : ℕ) : Type 0 where
  pub bits : ℕ → Cell → Bool
  pub lines : (t : ℕ) (c : Cell) → t < 2 ^ p.degree → Contains g.cells c → IsLineBit a p (state_after p.degree p.mask t) c (bits t c)
  pub is : written ≡ from_bits (signature (length g.cells) g.mask (map (λ t. map (bits t) g.cells) (range_with_len 0 (2 ^ p.degree))))

-- register r has this signature
abbrev pub IsSigned : Netlist ℕ → PlanValue → ℕ → ℕ → Type 0
IsSigned a p r written = (g : RegisterValue) × (slice_get p.registers r ≡ Some g) × HasSignature a p g written

-- the signatures of each session's registers, in the session's order
abbrev pub AreSignatures : Netlist ℕ → PlanValue → List (List ℕ) → Type 0
AreSignatures a p signatures = AllZip (λ session written. AllZip (IsSigned a p) session written) p.sessions signatures
