use Rattle.std.proofs.Common.{sym}
use Rattle.bb_ctl.proofs.RowLemmas.{last_word}
use Rattle.bb_ctl.proofs.controller.last_bit.Goals as goal

pub returns : goal.returns
returns c = sym (last_word c.args.degree c.if-degree-eq0.false)
