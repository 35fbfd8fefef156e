use Rattle.bb_weave.proofs.Counted.{wires_counted}
use Rattle.bb_weave.proofs.RoomLemmas.{at_most, by_nets, bits_few, room}
use Rattle.bb_weave.proofs.laws.added_wires_are_few.Goals as goal

pub returns-clause-count : goal.returns-clause-count
returns-clause-count c = wires_counted

pub returns-clause-most : goal.returns-clause-most
returns-clause-most c = at_most

pub returns-clause-by_nets : goal.returns-clause-by_nets
returns-clause-by_nets c = by_nets

pub returns-clause-bits : goal.returns-clause-bits
returns-clause-bits c = bits_few

pub returns-clause-room : goal.returns-clause-room
returns-clause-room c = room
