-- The rows of the test registers: how the cells of each take their lines, their codes and the cells before them.
use Rattle.std.specs.Prelude.{ℕ, ◌+◌, suc, List, [], ◌∷◌, ◌++◌, length, map, Option, Some, None}
use Rattle.bb_base.specs.declared.operator.Op.TheVariants.{And, Or, Xor, Not, Buf, Zero}
use Rattle.bb_base.specs.Net.{Gate}
use Rattle.bb_base.specs.Bits.{picked}
use Rattle.bb_terms.specs.OnBits.{last_of}
use Rattle.bb_terms.specs.Plan.{PlanValue, RegisterValue, sessions_of}
use Rattle.bb_terms.specs.declared.wire.Wire.{Wire}
use Rattle.bb_terms.specs.declared.wire.Wire.TheVariants.{NotTest, Running, Shifting, Ring, On, Compacts, Latches, Takes, Off, Codes, Feedback, Signed, Carried, First}
use Rattle.bb_terms.specs.Reads.{qs_from}
use Rattle.bb_terms.specs.Controller.{gate_row, controller}

-- what stands before the first cell of a register that never compacts: the cell before it, where there is one
abbrev pub pass_row : ℕ → Option Wire → Gate Wire
pass_row r None = gate_row Zero (First r) []
pass_row r (Some q) = gate_row Buf (First r) (q ∷ [])

-- the cell before the first one in unload cycles, and else 0
abbrev pub carry_row : ℕ → Option Wire → Gate Wire
carry_row r None = gate_row Zero (Carried r) []
carry_row r (Some q) = gate_row And (Carried r) (Shifting ∷ q ∷ [])

-- the rows of a register in no session: it generates in all of them
abbrev pub idle_rows : ℕ → Option Wire → List (Gate Wire)
idle_rows r before = gate_row Buf (Latches r) (NotTest ∷ []) ∷ gate_row Buf (Takes r) (Shifting ∷ []) ∷ gate_row Buf (Codes r) (Running ∷ []) ∷ pass_row r before ∷ []

-- what a register does, by the session that it is
abbrev pub mode_rows : ℕ → List ℕ → List (Gate Wire)
mode_rows r sessions =
    gate_row Or (On r) (map Ring sessions) ∷ gate_row And (Compacts r) (Running ∷ On r ∷ []) ∷ gate_row Or (Latches r) (NotTest ∷ Compacts r ∷ []) ∷ gate_row Or (Takes r) (Compacts r ∷ Shifting ∷ [])
    ∷ gate_row Not (Off r) (On r ∷ []) ∷ gate_row And (Codes r) (Running ∷ Off r ∷ []) ∷ []

-- what its first cell takes: the parity of the tapped cells where it compacts, and the cell before it in unload cycles
abbrev pub sign_rows : ℕ → Option Wire → ℕ → List Wire → List (Gate Wire)
sign_rows r before mask qs =
    gate_row Xor (Feedback r) (picked mask qs) ∷ gate_row And (Signed r) (Compacts r ∷ Feedback r ∷ []) ∷ carry_row r before ∷ gate_row Or (First r) (Signed r ∷ Carried r ∷ []) ∷ []

-- the rows of register r with its sessions, the cell before it, its mask and its cells' bits
abbrev pub rows_of_register : ℕ → List ℕ → Option Wire → ℕ → List Wire → List (Gate Wire)
rows_of_register r [] before mask qs = idle_rows r before
rows_of_register r (s ∷ sessions) before mask qs = mode_rows r (s ∷ sessions) ++ sign_rows r before mask qs

-- the rows of the registers from register r on, whose first cell is cell i
abbrev pub registers_from : PlanValue → ℕ → ℕ → Option Wire → List RegisterValue → List (Gate Wire)
registers_from p r i before [] = []
registers_from p r i before (g ∷ registers) =
    rows_of_register r (sessions_of p r) before g.mask (qs_from i g.cells)
    ++ registers_from p (suc r) (i + length g.cells) (last_of before (map Some (qs_from i g.cells))) registers

-- the rows of the controller and of all registers
abbrev pub control_rows : PlanValue → List (Gate Wire)
control_rows p = controller p ++ registers_from p 0 0 None p.registers
