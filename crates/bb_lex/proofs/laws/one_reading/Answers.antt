use Rattle.bb_lex.proofs.Readings.{gives_denoted, some_denoted}
use Rattle.bb_lex.proofs.Spelled.{denoted_gives, denoted_once}
use Rattle.bb_lex.proofs.laws.one_reading.Goals as goal

pub returns-clause-exact : goal.returns-clause-exact
returns-clause-exact c = λ text tokens end. (denoted_gives text tokens end, gives_denoted text tokens end)

pub returns-clause-one : goal.returns-clause-one
returns-clause-one c = denoted_once

pub returns-clause-some : goal.returns-clause-some
returns-clause-some c = some_denoted
