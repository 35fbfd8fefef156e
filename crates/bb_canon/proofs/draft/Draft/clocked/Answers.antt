use Rattle.std.proofs.Common.{◌≡◌, Some, length, ap, ◌∙◌}
use Rattle.bb_base.specs.Net.{Flop}
use Rattle.bb_base.specs.Variables.{Bit}
use Rattle.bb_base.specs.Named.{net_text}
use Rattle.bb_base.specs.Building.{with_flop}
use Rattle.bb_base.proofs.BitLemmas.{bit_eq_itself}
use Rattle.bb_spell.specs.Lines.{FlopLine}
use Rattle.bb_canon.proofs.Drawing.{clock_found, ne_clock, flop_draws, below_more}
use Rattle.bb_canon.proofs.draft.Draft.clocked.Goals as goal

pub returns-in_default-clause-want : goal.returns-in_default-clause-want
returns-in_default-clause-want c = λ a gates flops f h d is few clock e.
    let found = clock_found a c.args.self.now gates flops c.instance.inside.clock h d (ap (λ (i : FlopLine). Some i.clock) c.instance.view_is ∙ clock) in
    let some = found.2 in
    let none = c.in_default.ensures.value in
    cc (some, none)

pub returns-then-ne-clause-want : goal.returns-then-ne-clause-want
returns-then-ne-clause-want c = λ a gates flops f h d is few clock e.
    let found = clock_found a c.args.self.now gates flops c.instance.inside.clock h d (ap (λ (i : FlopLine). Some i.clock) c.instance.view_is ∙ clock) in
    let stands : c.self.inside.clock ≡ Some found.0 = c.self.invariant.2 ∙ ap (λ n. n.clock) c.self.view_is ∙ found.1 in
    ne_clock _ (λ x. bit_eq_itself x) c.self.inside.clock _ c.in-Some.clock found.0 stands c.in-Some.ensures.value found.2 c.if-ne.ensures

pub returns-clause-drawn : goal.returns-clause-drawn
returns-clause-drawn c = λ a gates flops f h d is few clock e.
    let q : c.instance.inside.q ≡ net_text a f.q = ap (λ (i : FlopLine). i.flop.q) c.instance.view_is ∙ ap (λ (p : Flop Bit). p.q) e in
    let t : c.instance.inside.d ≡ net_text a f.d = ap (λ (i : FlopLine). i.flop.d) c.instance.view_is ∙ ap (λ (p : Flop Bit). p.d) e in
    let one = c.in_ok-q.ensures.drawn a gates flops f.q h d is.q q in
    let first = c.in_ok-q.ensures.named a gates flops f.q h d is.q q in
    let two = c.in_ok-d.ensures.drawn a gates flops f.d h one is.d t in
    let second = c.in_ok-d.ensures.named a gates flops f.d h one is.d t in
    let kept = c.in_ok-d.ensures.kept c.in_ok-q.q c.in_ok-q.ensures.within in
    let made : c.flop.new.self ≡ with_flop c.net-2.new.self c.in_ok-q.q c.in_ok-d.d = c.in_ok-flop.ensures.ok ∙ ap (λ n. with_flop n c.in_ok-q.q c.in_ok-d.d) c.self-2.view_is in
    flop_draws a c.net-2.new.self c.flop.new.self gates flops f c.in_ok-q.q c.in_ok-d.d two (below_more c.in_ok-q.q (length c.net.new.self.names) (length c.net-2.new.self.names) c.in_ok-q.ensures.within c.in_ok-d.ensures.grows) c.in_ok-d.ensures.within (kept ∙ first) second made
