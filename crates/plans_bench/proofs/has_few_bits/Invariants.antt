use Rattle.std.proofs.Common.{◌≡◌, ◌+◌, ◌≤◌, drop}
use Rattle.bb_base.specs.Variables.{bit_count}
use Rattle.plans_bench.proofs.has_few_bits.Given as goal

abbrev pub invariant-variables : goal.invariant-variables
invariant-variables l = record {
  few : l.bits ≤ 2097152;
  all : l.bits + bit_count (drop l.number l.named.variables) ≡ bit_count l.named.variables;
}
