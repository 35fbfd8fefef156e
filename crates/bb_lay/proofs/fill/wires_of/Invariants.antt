use Rattle.std.proofs.Common.{◌≡◌, map, take}
use Rattle.bb_lay.specs.Tables.{read_in_table}
use Rattle.bb_lay.proofs.fill.wires_of.Given as goal

abbrev pub invariant-nets : goal.invariant-nets
invariant-nets l = l.wires.items ≡ map (read_in_table l.reads) (take l.net-index l.nets)
