use Rattle.std.proofs.Common.{◌≡◌, ◌++◌, ◌-◌, map, All}
use Rattle.std.specs.List.{range_with_len}
use Rattle.bb_base.specs.Variables.{bit_at}
use Rattle.bb_base.specs.Building.{IsEarlier}
use Rattle.bb_net.proofs.builder.add_places.Given as goal

abbrev pub invariant-loop-place : goal.invariant-loop-place
invariant-loop-place l = record {
  made : l.names.keys ≡ l.fn.names.keys ++ map (bit_at l.variable) (range_with_len l.first (l.place - l.first));
  fresh : All (IsEarlier l.variable l.place) l.names.keys;
}
