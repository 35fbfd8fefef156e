use Rattle.std.proofs.Common.{◌≡◌, ◌≤◌, length, take}
use Rattle.std.specs.List.{flat_map}
use Rattle.bb_terms.specs.Rules.{IsSession}
use Rattle.bb_plan.proofs.FirstWrong.{HoldsBefore}
use Rattle.bb_plan.proofs.compacting.sessions.Given as goal

abbrev pub invariant-sessions : goal.invariant-sessions
invariant-sessions l = record {
  before : HoldsBefore l.plan.sessions (IsSession l.plan) l.place;
  count : l.listed ≡ length (flat_map (λ x. x) (take l.place l.plan.sessions));
  few : l.listed ≤ 2097152;
}
