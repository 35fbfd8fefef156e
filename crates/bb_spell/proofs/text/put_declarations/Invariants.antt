use Rattle.std.proofs.Common.{◌≡◌, ◌++◌, [], drop, map}
use Rattle.std.specs.List.{flat_map}
use Rattle.bb_spell.specs.Spelling.{declaration}
use Rattle.bb_spell.specs.Canonical.{with_feed, GrowsFrom}
use Rattle.bb_spell.proofs.text.put_declarations.Given as goal

abbrev pub invariant-variables : goal.invariant-variables
invariant-variables l = record {
  text : l.out.items ++ flat_map with_feed (map declaration (drop l.number l.named.variables)) ≡ l.fn.out.items ++ flat_map with_feed (map declaration l.named.variables);
  empty : l.line.items ≡ [];
  kept : GrowsFrom l.fn.out.items l.out.items;
}
