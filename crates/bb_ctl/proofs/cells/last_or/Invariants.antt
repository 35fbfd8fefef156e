use Rattle.std.proofs.Common.{◌≡◌, map, drop}
use Rattle.std.specs.Prelude.{Some}
use Rattle.bb_terms.specs.OnBits.{last_of}
use Rattle.bb_ctl.proofs.cells.last_or.Given as goal

abbrev pub invariant-wires : goal.invariant-wires
invariant-wires l = last_of l.last (map Some (drop l.wire-index l.wires)) ≡ last_of l.fn.before (map Some l.wires)
