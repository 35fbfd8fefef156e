use Rattle.std.proofs.Common.{◌++◌, true, ap, sym}
use Rattle.bb_make.proofs.WovenLemmas.{denotes_only}
use Rattle.bb_make.proofs.texts.printed.Goals as goal

pub returns-clause-denotes : goal.returns-clause-denotes
returns-clause-denotes c =
    let text = c.print.new.out.items in
    let whole = sym (ap (λ front. front ++ text) c.new-text.ensures.items) in
    denotes_only text c.args.named.now (c.in_ok-print.ensures.restores true text whole (record { names = tt; bits = c.requires.bits; order = c.requires.order })) c.requires.by_bits
