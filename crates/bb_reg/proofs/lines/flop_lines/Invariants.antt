use Rattle.std.proofs.Common.{◌≡◌, map, take}
use Rattle.std.specs.List.{AllZip}
use Rattle.bb_terms.specs.Paths.{AtNet}
use Rattle.bb_terms.specs.Support.{AreLeaves, stop_at}
use Rattle.bb_reg.proofs.lines.flop_lines.Given as goal

abbrev pub invariant-flops : goal.invariant-flops
invariant-flops l = record {
  walk : l.walk ≡ l.fn.walk;
  lines : AllZip (λ f leaves. AreLeaves l.netlist.gates (stop_at l.stops) (AtNet f.d) leaves) (take l.flop-index l.netlist.flops) (map (λ k. k.items) l.lines.items);
}
