use Rattle.bb_grammar.proofs.Sounds.{sound_module}
use Rattle.bb_grammar.proofs.laws.in_range.Goals as goal

pub returns : goal.returns
returns c = sound_module
