use Rattle.std.proofs.Common.{◌≡◌, ◌++◌, drop}
use Rattle.bb_base.specs.Bits.{picked}
use Rattle.bb_ctl.proofs.controller.picked.Given as goal

abbrev pub invariant-wires : goal.invariant-wires
invariant-wires l = l.taken.items ++ picked l.rest (drop l.wire-index l.wires) ≡ picked l.mask l.wires
