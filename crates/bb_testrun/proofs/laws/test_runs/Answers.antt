use Rattle.bb_testrun.proofs.RunLaws.{in_run, in_unload, out, walks, over, begins}
use Rattle.bb_testrun.proofs.laws.test_runs.Goals as goal

pub returns : goal.returns
returns c = record { walk = walks; held_by = in_run; unload = in_unload; out = out; over = over; begins = begins }
