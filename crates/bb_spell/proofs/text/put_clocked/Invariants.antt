use Rattle.std.proofs.Common.{◌≡◌, ◌++◌, [], drop, map, Some}
use Rattle.std.specs.List.{flat_map}
use Rattle.bb_base.specs.Variables.{bit_of}
use Rattle.bb_base.specs.Net.{renamed_flop}
use Rattle.bb_base.specs.Named.{net_text}
use Rattle.bb_spell.specs.Canonical.{with_feed, GrowsFrom, flop_lines}
use Rattle.bb_spell.proofs.text.put_clocked.Given as goal

abbrev pub invariant-flops : goal.invariant-flops
invariant-flops l = record {
  text : l.out.items ++ flat_map with_feed (flop_lines (Some (bit_of l.named.variables l.clock)) l.number (map (renamed_flop (net_text l.named)) (drop l.number l.named.netlist.flops))) ≡ l.fn.out.items ++ flat_map with_feed (flop_lines (Some (bit_of l.named.variables l.clock)) 0 (map (renamed_flop (net_text l.named)) l.named.netlist.flops));
  empty : l.line.items ≡ [];
  kept : GrowsFrom l.fn.out.items l.out.items;
}
