use Rattle.std.proofs.Common.{◌≡◌, ◌<◌, All, length, map, take}
use Rattle.bb_terms.specs.Numbering.{net_at}
use Rattle.bb_ctl.proofs.numbering.nets_of.Given as goal

abbrev pub invariant-wires : goal.invariant-wires
invariant-wires l = record {
  same : l.builder ≡ l.fn.builder;
  nets : l.nets.items ≡ map (net_at l.fn.builder l.kept) (take l.wire-index l.wires);
  below : All (λ net. net < length l.fn.builder.names) l.nets.items;
}
