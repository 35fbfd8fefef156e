use Rattle.bb_selftest.proofs.AtSites.{covers}
use Rattle.bb_selftest.proofs.walk_laws.covers_every_gate.Goals as goal

pub returns : goal.returns
returns c = λ a b p named own valid m. covers a b p named own valid m
