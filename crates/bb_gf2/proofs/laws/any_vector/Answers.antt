use Rattle.bb_gf2.proofs.Pairing.{duals_from_least}
use Rattle.bb_gf2.proofs.Existence.{duals_exist, independent, state_codes, duals_below, combined_below}
use Rattle.bb_base.specs.Bits.{from_bits}
use Rattle.bb_gf2.proofs.laws.any_vector.Goals as goal

pub returns-clause-independent : goal.returns-clause-independent
returns-clause-independent c = duals_exist

pub returns-clause-least : goal.returns-clause-least
returns-clause-least c = duals_from_least

pub returns-clause-dual : goal.returns-clause-dual
returns-clause-dual c = independent

pub returns-clause-state : goal.returns-clause-state
returns-clause-state c = state_codes

pub returns-clause-below : goal.returns-clause-below
returns-clause-below c = duals_below

pub returns-clause-state_below : goal.returns-clause-state_below
returns-clause-state_below c = λ k wanted. combined_below k (from_bits wanted)
