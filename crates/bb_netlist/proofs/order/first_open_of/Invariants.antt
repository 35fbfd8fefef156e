use Rattle.std.proofs.Common.{◌≡◌, ◌<◌, ℕ, take}
use Rattle.std.specs.Prelude.{Some, None, slice_get}
use Rattle.bb_base.specs.Levels.{depth_in, open_count}
use Rattle.bb_netlist.proofs.order.first_open_of.Given as goal

abbrev pub invariant-nets : goal.invariant-nets
invariant-nets l = record {
  closed : open_count (depth_in l.depths) (take l.net-index l.nets) ≡ 0;
  earlier : (q m : ℕ) → q < l.net-index → slice_get l.nets q ≡ Some m → depth_in l.depths m ≡ None → ⊥;
}
