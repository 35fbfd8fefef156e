use Rattle.std.proofs.Common.{◌<◌, ◌^◌, sym, subst}
use Rattle.bb_eqn.proofs.SignatureLemmas.{next_word, next_below}
use Rattle.bb_eqn.proofs.signature.misr_step.Goals as goal

pub returns-clause-value : goal.returns-clause-value
returns-clause-value c = next_word c.args.length c.args.mask c.args.q c.args.z c.from-feedback.result c.code_bit.result c.requires.few c.code_bit.ensures c.from-feedback.ensures

pub returns-clause-below : goal.returns-clause-below
returns-clause-below c =
    subst (λ n. n < 2 ^ c.args.length) (sym (next_word c.args.length c.args.mask c.args.q c.args.z c.from-feedback.result c.code_bit.result c.requires.few c.code_bit.ensures c.from-feedback.ensures))
    (next_below c.args.length c.args.mask c.args.q c.args.z c.requires.lines)
