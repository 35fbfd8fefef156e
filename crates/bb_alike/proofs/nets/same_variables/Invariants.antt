use Rattle.std.proofs.Common.{◌≡◌, map, take}
use Rattle.bb_base.specs.Variables.{Entry}
use Rattle.bb_base.specs.Named.{lookup_of}
use Rattle.bb_alike.proofs.nets.same_variables.Given as goal

abbrev pub invariant-loop-number : goal.invariant-loop-number
invariant-loop-number l = l.numbers.items ≡ map (λ (v : Entry). lookup_of v.0 l.within) (take l.number l.of.variables)
