-- A valid plan has few enough cells, registers and sessions for numbers of 32 bits.
use Rattle.std.proofs.Common.{arith, ◌≡◌, ℕ, ◌≤◌}
use Rattle.bb_base.specs.Net.{Netlist}
use Rattle.bb_terms.specs.Plan.{PlanValue}
use Rattle.bb_terms.specs.Valid.{IsValidPlan}
use Rattle.bb_written.proofs.Few as counts
use Rattle.bb_normal.proofs.Numbered.{AreFew}

pub are_few : (a : Netlist ℕ) (p : PlanValue) → IsValidPlan a p → AreFew p
are_few a p valid =
    let few : counts.AreFew p = counts.are_few a p valid in
    let degree = few.degree in
    let cells = few.cells in
    let registers = few.registers in
    let sessions = few.sessions in
    record { degree = omega (arith, degree); cells = omega (arith, cells); registers = omega (arith, registers, cells); sessions = omega (arith, sessions) }
