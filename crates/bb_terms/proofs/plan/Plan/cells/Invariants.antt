use Rattle.std.proofs.Common.{◌≡◌, ◌^◌, ◌-◌, length, min, ◌+◌, ◌<◌, drop}
use Rattle.bb_terms.specs.Plan.{chain}
use Rattle.bb_terms.proofs.ChainLemmas.{cells_of}
use Rattle.bb_terms.proofs.plan.Plan.cells.Given as goal

abbrev pub invariant-registers : goal.invariant-registers
invariant-registers l = record {
  fits : l.count < 2 ^ 64;
  all : min (2 ^ 64 - 1) (l.count + length (cells_of (drop l.register-index l.self.registers))) ≡ min (2 ^ 64 - 1) (length (chain l.self));
}
