use Rattle.std.proofs.Common.{◌≡◌, ◌+◌, ◌<◌, ◌^◌, drop}
use Rattle.bb_fault.specs.Firsts.{first_answer}
use Rattle.bb_fault.specs.Limits.{told_count}
use Rattle.bb_scope.specs.Parts.{item_fault, items_nets}
use Rattle.std.specs.Prelude.{flat_map}
use Rattle.bb_scope.specs.Names.{item_names}
use Rattle.bb_scope.specs.Uses.{AreNext}
use Rattle.bb_width.proofs.parts.items.Given as goal

abbrev pub invariant-loop-one : goal.invariant-loop-one
invariant-loop-one l = record {
  next : AreNext l.scope (flat_map item_names (drop l.one-index l.list)) l.rest;
  fault : first_answer (item_fault l.scope) (drop l.one-index l.list) ≡ first_answer (item_fault l.scope) l.list;
  few : l.nets < 2 ^ 64;
  nets : told_count (l.nets + items_nets l.scope (drop l.one-index l.list)) ≡ told_count (items_nets l.scope l.list);
}
