use Rattle.std.proofs.Common.{◌≡◌, take}
use Rattle.std.specs.List.{flat_map}
use Rattle.bb_terms.specs.Plan.{RegisterValue}
use Rattle.bb_plan.proofs.scan.chain.Given as goal

abbrev pub invariant-registers : goal.invariant-registers
invariant-registers l = l.cells.items ≡ flat_map (λ (g : RegisterValue). g.cells) (take l.register-index l.plan.registers)
