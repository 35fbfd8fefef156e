use Rattle.bb_gf2.proofs.Orbit.{vector_comes}
use Rattle.bb_gf2.proofs.register_laws.every_vector_comes.Goals as goal

pub returns : goal.returns
returns c = vector_comes
