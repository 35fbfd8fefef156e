use Rattle.bb_written.proofs.Forward.{forward}
use Rattle.bb_written.proofs.Ranked.{no_loop}
use Rattle.bb_written.proofs.laws.runs_alike.Goals as goal

pub returns : goal.returns
returns c = record { original = forward; order = no_loop }
