use Rattle.bb_spell.proofs.Leading.{by_form}
use Rattle.bb_spell.proofs.line_laws.lines_stand_by_their_forms.Goals as goal

pub returns : goal.returns
returns c = by_form
