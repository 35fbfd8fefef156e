use Rattle.std.proofs.Common.{◌≡◌, ◌++◌, drop, map}
use Rattle.std.specs.List.{flat_map}
use Rattle.bb_base.specs.Named.{net_text}
use Rattle.bb_spell.specs.Spelling.{spelled_bit, further}
use Rattle.bb_spell.proofs.line.write_further.Given as goal

abbrev pub invariant-nets : goal.invariant-nets
invariant-nets l = l.line.items ++ flat_map further (map spelled_bit (map (net_text l.named) (drop l.net-index l.nets))) ≡ l.fn.line.items ++ flat_map further (map spelled_bit (map (net_text l.named) l.nets))
