-- The lines of the written netlist compute the original's segments, whatever the original's gates mean.
use Rattle.std.specs.Prelude.{◌≡◌, ℕ, ◌&&◌, ◌==◌, Bool, false, List}
use Rattle.std.specs.List.{list_any}
use Rattle.bb_base.specs.Net.{Gate, Netlist}
use Rattle.bb_terms.specs.Paths.{Start}
use Rattle.bb_terms.specs.Function.{IsBitOf}
use Rattle.bb_terms.specs.declared.plan.Cell.{Cell}
use Rattle.bb_terms.specs.Kinds.{is_behind}
use Rattle.bb_terms.specs.Plan.{PlanValue, chain}
use Rattle.bb_terms.specs.Lines.{IsStart, is_stop}
use Rattle.bb_terms.specs.declared.wire.Wire.{Wire}
use Rattle.bb_terms.specs.Reads.{read, line}
use Rattle.bb_testrun.specs.Traced.{KeptMeet}

-- logic reads behind cells at stops alone
abbrev pub ReadsAtStops : Netlist ℕ → PlanValue → Type 0
ReadsAtStops a p = (net : ℕ) → is_stop a p net ≡ false → list_any (λ c. is_behind c.kind && (c.net == net)) (chain p) ≡ false

abbrev pub LinesCompute : Netlist ℕ → PlanValue → Type 0
LinesCompute a p =
    ReadsAtStops a p → (gives : Gate ℕ → List Bool → Bool) (v : Wire → Bool) → KeptMeet gives a p v → (c : Cell) (control_start : Start ℕ) → IsStart a c control_start
    → IsBitOf gives a.gates (is_stop a p) control_start (λ net. v (read p net)) (v (line a p c))
