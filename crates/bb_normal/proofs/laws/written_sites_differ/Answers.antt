use Rattle.bb_normal.proofs.Standing.{written_sites_differ}
use Rattle.bb_normal.proofs.laws.written_sites_differ.Goals as goal

pub returns : goal.returns
returns c = written_sites_differ
