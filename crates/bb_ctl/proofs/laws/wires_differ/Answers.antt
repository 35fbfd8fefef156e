use Rattle.bb_ctl.proofs.Names.{names_differ}
use Rattle.bb_ctl.proofs.laws.wires_differ.Goals as goal

pub returns : goal.returns
returns c = names_differ
