use Rattle.bb_base.specs.Named.{design_of}
use Rattle.bb_spell.proofs.Texts.{design_text}
use Rattle.bb_canon_parse.proofs.Derived.{text_denotes}
use Rattle.bb_canon_parse.proofs.laws.canonical_denotes.Goals as goal

pub returns : goal.returns
returns c = λ a h. text_denotes (design_of a) (design_text a h)
