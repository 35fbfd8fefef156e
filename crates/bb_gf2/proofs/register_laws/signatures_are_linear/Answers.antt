use Rattle.bb_gf2.proofs.Linear.{signature_linear}
use Rattle.bb_gf2.proofs.register_laws.signatures_are_linear.Goals as goal

pub returns : goal.returns
returns c = signature_linear
