use Rattle.std.proofs.Common.{◌≡◌, ◌==◌, ◌&&◌, ℕ}
use Rattle.std.specs.Prelude.{if◌then◌else◌, nat_lt, slice_index}
use Rattle.bb_base.specs.Net.{times}
use Rattle.bb_netlist.proofs.levels.first_ready.Given as goal

abbrev pub invariant-gates : goal.invariant-gates
invariant-gates l = (h : ℕ) → times h l.ready.items ≡ (if nat_lt h l.number && slice_index l.waits h == 0 then 1 else 0)
