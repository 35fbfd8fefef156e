use Rattle.std.proofs.Common.{map, drop}
use Rattle.bb_written.specs.Written.{inner_entry}
use Rattle.bb_lay.proofs.Scalars.{GoesOn}
use Rattle.bb_lay.proofs.added.add_wires.Given as goal

abbrev pub invariant-wires : goal.invariant-wires
invariant-wires l = GoesOn l.fn.builder (map inner_entry l.wires) l.builder (map inner_entry (drop l.wire-index l.wires))
