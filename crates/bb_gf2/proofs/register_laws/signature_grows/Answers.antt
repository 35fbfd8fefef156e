use Rattle.bb_terms.proofs.Growth.{grows}
use Rattle.bb_gf2.proofs.register_laws.signature_grows.Goals as goal

pub returns : goal.returns
returns c = grows
