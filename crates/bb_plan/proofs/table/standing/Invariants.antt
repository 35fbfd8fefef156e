use Rattle.std.proofs.Common.{◌≡◌, ℕ, ◌<◌, length, take, get_or}
use Rattle.bb_plan.specs.Tables.{blank, on_net}
use Rattle.bb_plan.proofs.table.standing.Given as goal

abbrev pub invariant-cells : goal.invariant-cells
invariant-cells l = record {
  long : length l.table.items ≡ l.nets;
  each : (net : ℕ) → net < l.nets → get_or l.table.items net blank ≡ on_net (take l.cell-index l.cells) net;
}
