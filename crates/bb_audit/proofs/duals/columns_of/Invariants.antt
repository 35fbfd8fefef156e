use Rattle.std.proofs.Common.{◌≡◌, map, take}
use Rattle.std.specs.List.{flat_map}
use Rattle.bb_terms.specs.declared.plan.Cell.{Cell}
use Rattle.bb_terms.specs.Plan.{RegisterValue}
use Rattle.bb_audit.proofs.duals.columns_of.Given as goal

abbrev pub invariant-registers : goal.invariant-registers
invariant-registers l = l.columns.items ≡ map (λ (c : Cell). c.column) (flat_map (λ (g : RegisterValue). g.cells) (take l.register-index l.plan.registers))
