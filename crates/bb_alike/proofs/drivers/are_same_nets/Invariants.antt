use Rattle.std.proofs.Common.{map, Some}
use Rattle.bb_alike.proofs.ListLemmas.{AgreeTo}
use Rattle.bb_alike.proofs.NetLemmas.{entry}
use Rattle.bb_alike.proofs.drivers.are_same_nets.Given as goal

abbrev pub invariant-nets : goal.invariant-nets
invariant-nets l = AgreeTo (entry l.nets) l.from (map Some l.to) l.place
