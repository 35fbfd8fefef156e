use Rattle.bb_terms.proofs.Growth.{length_state, length_signature, length_step}
use Rattle.bb_gf2.proofs.register_laws.keeps_length.Goals as goal

pub returns-clause-state : goal.returns-clause-state
returns-clause-state c = length_state

pub returns-clause-signature : goal.returns-clause-signature
returns-clause-signature c = length_signature

pub returns-clause-step : goal.returns-clause-step
returns-clause-step c = length_step
