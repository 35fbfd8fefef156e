use Rattle.bb_normal.proofs.Whole.{normal, ordered}
use Rattle.bb_written.proofs.Forward.{forward}
use Rattle.bb_written.proofs.Ranked.{no_loop}
use Rattle.bb_normal.proofs.laws.runs_normally.Goals as goal

pub returns : goal.returns
returns c = record { normal = normal forward no_loop; order = ordered forward no_loop }
