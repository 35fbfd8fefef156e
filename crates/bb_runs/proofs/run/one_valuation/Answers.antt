use Rattle.bb_runs.proofs.Valuations.{valuation, agree_all}
use Rattle.bb_runs.proofs.run.one_valuation.Goals as goal

pub returns-clause-some : goal.returns-clause-some
returns-clause-some c = λ gives n i s is has long_i long_s. valuation gives n has.0 is has.1 i s long_i long_s

pub returns-clause-one : goal.returns-clause-one
returns-clause-one c = λ gives n i s v w is has a b net small. agree_all gives n has.0 is has.1 i s v w a b net small
