use Rattle.std.proofs.Common.{◌≡◌, ◌++◌, ◌∙◌, sym, ap, rules}
use Rattle.bb_base.specs.Named.{design_of}
use Rattle.bb_spell.specs.Canonical.{canonical_text}
use Rattle.bb_canon.proofs.Redrawn.{drawn_design}
use Rattle.bb_canon.proofs.read.read_whole.Goals as goal

pub returns-else-eq-clause-complete : goal.returns-else-eq-clause-complete
returns-else-eq-clause-complete c = λ a b n e.
    let design : design_of c.in_ok-named.named ≡ design_of a = drawn_design a c.in_ok-named.named b.named (c.in_ok-named.ensures.drawn a b n e) in
    let whole : c.new-again.result.items ++ canonical_text (design_of c.in_ok-named.named) ≡ c.args.text.now = ap (λ ks. ks ++ canonical_text (design_of c.in_ok-named.named)) c.new-again.ensures.items ∙ ap canonical_text design ∙ sym e in
    let same : c.as_slice.result.now ≡ c.args.text.now = c.as_slice.ensures.value ∙ c.in_ok-append_text.ensures.ok ∙ whole in
    let told = c.eq.ensures in
    let other = c.if-eq.false in
    search rules
