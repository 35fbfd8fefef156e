use Rattle.std.proofs.Common.{◌≡◌, ◌<◌, ◌+◌, ◌*◌, All, length}
use Rattle.std.specs.Prelude.{count_by}
use Rattle.bb_drive.specs.Nets.{has_bit}
use Rattle.bb_drive.specs.Origins.{is_unlabelled, Ways, AreWays, AreLabels}
use Rattle.bb_drive.proofs.origins.pass_all.Given as goal

abbrev pub invariant-waiting : goal.invariant-waiting
invariant-waiting l = record {
  long : length l.labels ≡ length l.initial.labels;
  within : All (λ b. b < length l.initial.labels) l.waiting.items;
  labels : (w : Ways) → AreWays w → w.newest ≡ l.newest → w.older ≡ l.older → AreLabels w l.initial.labels (has_bit l.initial.waiting.items) → AreLabels w l.labels (has_bit l.waiting.items);
}

abbrev pub decreases-waiting : goal.decreases-waiting
decreases-waiting l = length l.waiting.items + 2 * count_by is_unlabelled l.labels
