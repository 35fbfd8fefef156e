-- Plans whose cells, registers and sessions are those that are chosen, whatever their columns and masks are.
use Rattle.std.specs.Prelude.{◌≡◌, ℕ, ◌≤◌, ◌++◌, false, List, Contains}
use Rattle.std.specs.List.{AllZip}
use Rattle.std.specs.List.Sorted.{IsStrictlyIncreasing}
use Rattle.bb_base.specs.Net.{Netlist, IsNetlist, times}
use Rattle.bb_base.specs.Order.{HasOrder}
use Rattle.bb_terms.specs.Paths.{is_free}
use Rattle.bb_terms.specs.declared.plan.Cell.{Cell}
use Rattle.bb_terms.specs.Plan.{RegisterValue, PlanValue}
use Rattle.bb_reg.specs.Draft.{DraftValue, AreCells}
use Rattle.bb_reg.specs.Chosen.{grouped_of, scheduled_of}

-- a netlist whose gates have an order and whose outputs differ from one another and from inputs, and cuts that gates drive, ascending
pub record AreCutsOf (a : Netlist ℕ) (cuts : List ℕ) : Type 0 where
  pub netlist : IsNetlist a
  pub order : HasOrder a.gates
  pub ports : (net : ℕ) → times net (a.inputs ++ a.outputs) ≤ 1
  pub ascending : IsStrictlyIncreasing cuts
  pub driven : (net : ℕ) → Contains cuts net → is_free a.gates net ≡ false

-- the same cell but for its column
pub record IsSameCell (c d : Cell) : Type 0 where
  pub kind : c.kind ≡ d.kind
  pub net : c.net ≡ d.net

-- the same register but for its mask and its columns
abbrev pub IsSameRegister : RegisterValue → RegisterValue → Type 0
IsSameRegister g h = AllZip IsSameCell g.cells h.cells

-- the plan has the cells, registers of at most so many cells, and sessions that are chosen for the netlist with its cuts
pub record IsChosen (a : Netlist ℕ) (cuts : List ℕ) (most : ℕ) (p : PlanValue) : Type 0 where
  pub draft : DraftValue
  pub cells : AreCells a cuts draft
  pub registers : AllZip IsSameRegister p.registers (grouped_of draft most).registers
  pub sessions : p.sessions ≡ scheduled_of (grouped_of draft most)
