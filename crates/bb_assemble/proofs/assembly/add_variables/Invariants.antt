use Rattle.std.proofs.Common.{◌≡◌, ◌++◌, length}
use Rattle.bb_base.specs.Variables.{bit_count}
use Rattle.bb_assemble.specs.Assembling.{is_kept, AreAdded}
use Rattle.bb_assemble.proofs.assembly.add_variables.Given as goal

abbrev pub invariant-loop-name : goal.invariant-loop-name
invariant-loop-name l = record {
  split : l.builder.variables ++ l.name-iterator ≡ l.fn.vars.entries;
  number : l.number ≡ length l.builder.variables;
  first : l.first ≡ bit_count l.builder.variables;
  stands : AreAdded l.fn.builder l.clock (is_kept l.numbers l.count) l.fn.vars.entries l.builder;
}
