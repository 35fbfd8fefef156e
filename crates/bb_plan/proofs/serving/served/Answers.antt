use Rattle.std.proofs.Common.{List, length, subst, sym}
use Rattle.bb_base.specs.Net.{driven}
use Rattle.bb_terms.specs.declared.plan.Cell.{Cell}
use Rattle.bb_terms.specs.Plan.{chain}
use Rattle.bb_plan.specs.declared.table.OnNet.{OnNet}
use Rattle.bb_plan.specs.Tables.{AreStanding}
use Rattle.bb_plan.proofs.Driven.{served_answer}
use Rattle.bb_plan.proofs.serving.served.Goals as goal

pub returns : goal.returns
returns c = λ p same.
    let nets = length (driven c.args.netlist.now) in
    let found = c.in_ok-table.ensures in
    let table : AreStanding nets (chain p) c.deref-2.result.now =
    subst (λ (t : List OnNet). AreStanding nets (chain p) t) (sym c.deref-2.ensures.value)
    (subst (λ (cells : List Cell). AreStanding nets cells c.in_ok-table.table.items) (sym same) (subst (λ n. AreStanding n c.args.cells.now c.in_ok-table.table.items) c.nets.ensures.count found)) in
    served_answer c.args.netlist.now p c.first_unserved.result (c.first_unserved.ensures p table)
