-- How many wires a self-test adds: a sum over the cells and the registers of its plan, and what its controller has.
use Rattle.std.specs.Prelude.{ℕ, ◌+◌, ◌*◌, List, [], ◌∷◌, length}
use Rattle.std.specs.List.{sum_by, range_with_len}
use Rattle.bb_terms.specs.declared.kind.Kind.{Kind}
use Rattle.bb_terms.specs.declared.kind.Kind.TheVariants.{Input, State, Split, Cut, Watch, Output}
use Rattle.bb_terms.specs.Plan.{PlanValue, chain, sessions_of}

-- the wires of a cell of this kind: those that its rows drive, and its bit, where that is no flip-flop of the original
abbrev pub wires_of_kind : Kind → ℕ
wires_of_kind Input = 8
wires_of_kind State = 5
wires_of_kind Split = 5
wires_of_kind Cut = 9
wires_of_kind Watch = 4
wires_of_kind Output = 4

-- the wires of a register that compacts in these sessions
abbrev pub wires_in_sessions : List ℕ → ℕ
wires_in_sessions [] = 4
wires_in_sessions (s ∷ sessions) = 10

-- the wires of all cells
abbrev pub cell_wires : PlanValue → ℕ
cell_wires p = sum_by (λ c. wires_of_kind c.kind) (chain p)

-- the wires of all registers
abbrev pub register_wires : PlanValue → ℕ
register_wires p = sum_by (λ r. wires_in_sessions (sessions_of p r)) (range_with_len 0 (length p.registers))

-- the wires of the controller, with its flip-flops' bits
abbrev pub controller_wires : PlanValue → ℕ
controller_wires p = 20 + 2 * p.degree + 5 * length p.sessions
