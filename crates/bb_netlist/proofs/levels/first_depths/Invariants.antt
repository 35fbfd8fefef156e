use Rattle.std.proofs.Common.{◌≡◌, ℕ, ◌<◌, ◌≤◌, ◌==◌, length, take}
use Rattle.std.specs.Prelude.{Some, None, if◌then◌else◌, count_by}
use Rattle.std.specs.List.{list_any}
use Rattle.bb_base.specs.Levels.{depth_in, is_open}
use Rattle.bb_netlist.proofs.levels.first_depths.Given as goal

abbrev pub invariant-loop-gate : goal.invariant-loop-gate
invariant-loop-gate l = record {
  long : length l.depths.items ≡ l.nets;
  each : (n : ℕ) → n < l.nets → depth_in l.depths.items n ≡ (if list_any (λ g. g.out == n) (take l.gate-index l.gates) then None else Some 0);
  few : count_by is_open l.depths.items ≤ l.gate-index;
}
