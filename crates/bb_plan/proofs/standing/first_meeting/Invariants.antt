use Rattle.std.proofs.Common.{◌≡◌, ℕ, ◌<◌, length, take, get_or}
use Rattle.bb_plan.specs.Tables.{blank, on_net, IsApartIn}
use Rattle.bb_plan.proofs.FirstWrong.{HoldsBefore}
use Rattle.bb_plan.proofs.standing.first_meeting.Given as goal

abbrev pub invariant-cells : goal.invariant-cells
invariant-cells l = record {
  before : HoldsBefore l.cells (IsApartIn l.cells) l.place;
  long : length l.table ≡ length l.initial.table;
  each : (net : ℕ) → net < length l.initial.table → get_or l.table net blank ≡ on_net (take l.place l.cells) net;
}
