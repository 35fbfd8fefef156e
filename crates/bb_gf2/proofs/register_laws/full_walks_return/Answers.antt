use Rattle.bb_gf2.proofs.Orbit.{first_return, full_from_walk, first_unique, one_to_one}
use Rattle.bb_gf2.proofs.register_laws.full_walks_return.Goals as goal

pub returns-clause-returns : goal.returns-clause-returns
returns-clause-returns c = first_return

pub returns-clause-full : goal.returns-clause-full
returns-clause-full c = λ degree mask some h first. full_from_walk degree mask some h first.away

pub returns-clause-first : goal.returns-clause-first
returns-clause-first c = first_unique

pub returns-clause-one_to_one : goal.returns-clause-one_to_one
returns-clause-one_to_one c = one_to_one
