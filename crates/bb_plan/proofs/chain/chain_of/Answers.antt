use Rattle.std.proofs.Common.{ap, ◌∙◌}
use Rattle.bb_terms.specs.Plan.{RegisterValue}
use Rattle.bb_plan.proofs.ChainLemmas.{registers_more}
use Rattle.bb_plan.proofs.chain.chain_of.Goals as goal

pub registers-preserved : goal.registers-preserved
registers-preserved c =
    registers_more c.args.registers.now c.registers.number c.index-registers-number.result c.registers.links.items c.add_cells.new.links.items c.deref.result.now c.registers-test.true c.index-registers-number.is c.registers.invariant
    c.in_ok-add_cells.ensures (c.deref.ensures.value ∙ ap (λ (g : RegisterValue). g.cells) c.register.view_is)
