use Rattle.std.proofs.Common.{◌≡◌, map, take}
use Rattle.std.specs.List.{AllZip}
use Rattle.bb_terms.specs.Support.{stop_at}
use Rattle.bb_reg.specs.LineTables.{IsLineBehind}
use Rattle.bb_reg.proofs.lines.gate_lines.Given as goal

abbrev pub invariant-nets : goal.invariant-nets
invariant-nets l = record {
  walk : l.walk ≡ l.fn.walk;
  lines : AllZip (IsLineBehind l.netlist (stop_at l.stops)) (take l.net-index l.nets) (map (λ k. k.items) l.lines.items);
}
