use Rattle.std.proofs.Common.{◌≡◌, map, take}
use Rattle.bb_base.specs.Levels.{number_in}
use Rattle.bb_netlist.proofs.order.numbers_of.Given as goal

abbrev pub invariant-keys : goal.invariant-keys
invariant-keys l = l.numbers.items ≡ map number_in (take l.key-index l.keys)
