use Rattle.bb_selftest.proofs.AtSites.{named_apart, reads_stop}
use Rattle.bb_selftest.proofs.walk_laws.sites_tell_nets_apart.Goals as goal

pub returns-clause-renaming : goal.returns-clause-renaming
returns-clause-renaming c = λ a b p named own valid m. named_apart a b p named own valid m

pub returns-clause-stops : goal.returns-clause-stops
returns-clause-stops c = λ a p named own valid. reads_stop a p named own valid
