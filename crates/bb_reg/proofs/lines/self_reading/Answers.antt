use Rattle.std.proofs.Common.{arith, ◌∙◌, map, nat_eq}
use Rattle.std.specs.List.{list_any}
use Rattle.std.proofs.lemmas.List.{take_all}
use Rattle.bb_base.proofs.Lists.{length_map}
use Rattle.bb_reg.specs.LineTables.{reading_in}
use Rattle.bb_reg.proofs.LineLemmas.{reading_more, reading_long}
use Rattle.bb_reg.proofs.lines.self_reading.Goals as goal

pub flops-preserved : goal.flops-preserved
flops-preserved c =
    let bit = c.is_among.ensures ∙ (λ k. list_any (nat_eq (c.flop.view_is k).q) (c.deref.ensures.0 k)) in
    c.in_ok-push.ensures.items
    ∙ reading_more (λ k. k.items) c.args.flops.now c.args.lines.now c.flops.reading.items c.flops.number c.index-flops-number.result c.index-lines-number.result c.is_among.result c.requires c.flops-test.true
    c.flops.invariant c.index-flops-number.is c.index-lines-number.is bit

pub returns : goal.returns
returns c =
    let lines = map (λ k. k.items) c.args.lines.now in
    let long = reading_long c.args.flops.now lines (length_map (λ k. k.items) c.args.lines.now ∙ c.requires) in
    c.flops.invariant ∙ take_all c.flops.number (reading_in c.args.flops.now lines) (omega (arith, long, c.flops-test.false))
