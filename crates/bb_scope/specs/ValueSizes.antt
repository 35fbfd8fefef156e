-- The sizes of values that are made.
-- (No outcome rests on these: they serve contracts of inner calls and proofs.)
use Rattle.std.specs.Prelude.{suc, List, [], ◌∷◌}
use Rattle.bb_scope.specs.declared.value.Bit.{Bit}
use Rattle.bb_scope.specs.declared.value.Bit.TheVariants.{Net, Fixed}
use Rattle.bb_scope.specs.declared.size.Size.{Size}
use Rattle.bb_scope.specs.Sizes.{of_nets}

abbrev pub value_size : List Bit → Size
value_size [] = of_nets 0
value_size (Net n ∷ bits) = record { nets = suc (value_size bits).nets; constants = (value_size bits).constants }
value_size (Fixed one ∷ bits) = record { nets = (value_size bits).nets; constants = suc (value_size bits).constants }

abbrev pub value_sizes : List (List Bit) → List Size
value_sizes [] = []
value_sizes (v ∷ stack) = value_size v ∷ value_sizes stack
