use Rattle.std.proofs.Common.{◌≡◌, ◌++◌, [], drop, map}
use Rattle.std.specs.List.{flat_map}
use Rattle.bb_base.specs.Net.{renamed_gate}
use Rattle.bb_base.specs.Named.{net_text}
use Rattle.bb_spell.specs.Spelling.{gate_line}
use Rattle.bb_spell.specs.Canonical.{with_feed, GrowsFrom}
use Rattle.bb_spell.proofs.text.put_statements.Given as goal

abbrev pub invariant-gates : goal.invariant-gates
invariant-gates l = record {
  text : l.out.items ++ flat_map with_feed (map gate_line (map (renamed_gate (net_text l.named)) (drop l.gate-index l.named.netlist.gates))) ≡ l.fn.out.items ++ flat_map with_feed (map gate_line (map (renamed_gate (net_text l.named)) l.named.netlist.gates));
  empty : l.line.items ≡ [];
  kept : GrowsFrom l.fn.out.items l.out.items;
}
