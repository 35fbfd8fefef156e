use Rattle.std.proofs.Common.{ℕ, [], take}
use Rattle.std.specs.Prelude.{flat_map, if◌then◌else◌}
use Rattle.bb_base.specs.Net.{Gate}
use Rattle.bb_drive.specs.Clock.{is_buf}
use Rattle.bb_drive.specs.Origins.{AreMarked}
use Rattle.bb_drive.proofs.marks.mark_gates.Given as goal

abbrev pub invariant-gates : goal.invariant-gates
invariant-gates l = AreMarked (flat_map (λ (g : Gate ℕ). if is_buf g.op then [] else g.ins) (take l.gate-index l.gates)) l.initial.marks l.marks
