-- the added rows by parts
use Rattle.std.proofs.Common.{ℕ, ◌<◌, ◌++◌, Bool, None}
use Rattle.std.specs.List.{AllByRecursion}
use Rattle.bb_base.specs.Net.{Gate, Netlist}
use Rattle.bb_base.specs.Run.{Meets}
use Rattle.bb_terms.specs.Plan.{PlanValue}
use Rattle.bb_terms.specs.declared.wire.Wire.{Wire}
use Rattle.bb_terms.specs.Controller.{controller}
use Rattle.bb_terms.specs.Registers.{registers_from, control_rows}
use Rattle.bb_written.specs.Cells.{all_cells_from}
use Rattle.bb_written.specs.Written.{test_gates}
use Rattle.bb_written.specs.Trace.{IsTestTrace}
use Rattle.bb_base.proofs.Lists.{all_front, all_back, all_join}

-- a fact of all added rows, by parts
pub by_parts : (F : Gate Wire → Type 0) (a : Netlist ℕ) (p : PlanValue) → AllByRecursion F (test_gates a p) → AllByRecursion F (controller p ++ (registers_from p 0 0 None p.registers ++ all_cells_from a p 0 0 p.registers))
by_parts F a p h =
    let control = all_front F (control_rows p) (all_cells_from a p 0 0 p.registers) h in
    all_join F (controller p) _ (all_front F (controller p) _ control)
    (all_join F (registers_from p 0 0 None p.registers) _ (all_back F (controller p) _ control) (all_back F (control_rows p) _ h))

pub from_parts : (F : Gate Wire → Type 0) (a : Netlist ℕ) (p : PlanValue) → AllByRecursion F (controller p) → AllByRecursion F (registers_from p 0 0 None p.registers) → AllByRecursion F (all_cells_from a p 0 0 p.registers) → AllByRecursion F (test_gates a p)
from_parts F a p h k l = all_join F (control_rows p) _ (all_join F (controller p) _ h k) l

pub rows_meet : (a : Netlist ℕ) (p : PlanValue) (n : ℕ) (v : ℕ → Wire → Bool) → IsTestTrace a p n v → (c : ℕ) → c < n
    → AllByRecursion (Meets (v c)) (controller p ++ (registers_from p 0 0 None p.registers ++ all_cells_from a p 0 0 p.registers))
rows_meet a p n v h c lt = by_parts (Meets (v c)) a p (h.trace.gates_meet c lt)
