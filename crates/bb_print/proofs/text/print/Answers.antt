use Rattle.bb_print.proofs.Restored.{appended_restores}
use Rattle.bb_print.proofs.text.print.Goals as goal

pub returns-in-Ok-clause-restores : goal.returns-in-Ok-clause-restores
returns-in-Ok-clause-restores c = λ own text same fits. appended_restores own c.args.named.now c.args.out.now.items c.append_text.new.out.items text c.in-Ok.ensures.named c.in-Ok.ensures.ok same fits
