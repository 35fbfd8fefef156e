use Rattle.std.proofs.Common.{◌≡◌, ◌++◌, map, drop, length}
use Rattle.std.specs.List.{flat_map}
use Rattle.bb_reg.specs.Chosen.{compacting_from}
use Rattle.bb_reg.specs.Fitting.{ends_of_all}
use Rattle.bb_reg.proofs.scheduling.compacting_of.Given as goal

abbrev pub invariant-registers : goal.invariant-registers
invariant-registers l = record {
  numbers : l.compacting.numbers.items ++ map (λ x. x.0) (compacting_from l.number (drop l.number l.registers) (map (λ k. k.items) l.rest)) ≡ map (λ x. x.0) (compacting_from 0 l.registers (map (λ k. k.items) l.leaves));
  items : l.compacting.items.items ++ map (λ x. ends_of_all x.1) (compacting_from l.number (drop l.number l.registers) (map (λ k. k.items) l.rest)) ≡ map (λ x. ends_of_all x.1) (compacting_from 0 l.registers (map (λ k. k.items) l.leaves));
  long : length l.rest ≡ length (flat_map (λ g. g.cells) (drop l.number l.registers));
}
