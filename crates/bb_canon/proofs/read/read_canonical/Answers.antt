use Rattle.std.proofs.Common.{sym, ◌∙◌}
use Rattle.bb_base.specs.Named.{design_of}
use Rattle.bb_canon.specs.declared.draft.CanonFault.TheVariants.{Line, Unfit}
use Rattle.bb_canon.proofs.Designs.{one_design, names_no_line, err_same}
use Rattle.bb_spell.proofs.Texts.{design_text, buildable_numbered}
use Rattle.bb_spell.proofs.Told.{told, told_right}
use Rattle.bb_spell.proofs.Standing.{text_stands}
use Rattle.bb_canon.proofs.read.read_canonical.Goals as goal

pub returns-in-Ok-clause-same : goal.returns-in-Ok-clause-same
returns-in-Ok-clause-same c = λ a h e. one_design c.in-Ok.named a (buildable_numbered c.in-Ok.named c.in-Ok.ensures.buildable) h (c.in-Ok.ensures.accepts ∙ sym e)

pub returns-in-Ok-clause-right : goal.returns-in-Ok-clause-right
returns-in-Ok-clause-right c = λ _. told_right c.args.text.now (text_stands (design_of c.in-Ok.named) c.args.text.now (design_text c.in-Ok.named (buildable_numbered c.in-Ok.named c.in-Ok.ensures.buildable)) (sym c.in-Ok.ensures.accepts))

pub returns-in-Err-Unfit-clause-known : goal.returns-in-Err-Unfit-clause-known
returns-in-Err-Unfit-clause-known c = λ a h e. names_no_line c.refusal.result c.args.text.now (text_stands (design_of a) c.args.text.now (design_text a h) e) c.refusal.ensures.line

pub returns-in-Err-Unfit-clause-line : goal.returns-in-Err-Unfit-clause-line
returns-in-Err-Unfit-clause-line c = λ line e. told c.args.text.now line (c.refusal.ensures.line line (err_same c.refusal.result (Line line) e))

pub returns-in-Err-Unfit-clause-unfit : goal.returns-in-Err-Unfit-clause-unfit
returns-in-Err-Unfit-clause-unfit c = λ e. told_right c.args.text.now (c.refusal.ensures.unfit (err_same c.refusal.result Unfit e))
