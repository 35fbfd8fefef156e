use Rattle.std.proofs.Common.{◌≡◌, ◌++◌, ◌-◌, ◌^◌, ◌<◌, ◌≤◌, ℕ, map, take}
use Rattle.bb_base.specs.OwnNames.{made_name}
use Rattle.bb_drive.specs.Nets.{made_names, made_variable, is_variable}
use Rattle.bb_drive.proofs.MadeNames.{free_names}
use Rattle.bb_drive.proofs.nets.add_wires.Given as goal

abbrev pub invariant-loop-number : goal.invariant-loop-number
invariant-loop-number l = record {
  all : l.vars.entries ++ map made_variable (take l.left (free_names l.fn.vars.entries l.number (l.end - l.number))) ≡ l.fn.vars.entries ++ map made_variable (made_names l.fn.vars.entries l.fn.count);
  same : (j : ℕ) → l.number ≤ j → j < 2 ^ 64 → is_variable l.vars.entries (made_name j) ≡ is_variable l.fn.vars.entries (made_name j);
}
