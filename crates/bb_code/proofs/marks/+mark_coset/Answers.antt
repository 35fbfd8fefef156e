use Rattle.bb_code.proofs.Marking.{mark_step}
use Rattle.bb_code.proofs.marks.+mark_coset.Goals as goal

pub returns-in-Some : goal.returns-in-Some
returns-in-Some t c =
    mark_step c.args.marks.now c.mark_coset.new.marks c.mark_coset-in-Some.new.marks c.in-Some.row.now c.args.v c.in-Some.rest.now c.args.rows.now
    c.in-Some.ensures.cases.0 c.mark_coset.auto.marks c.mark_coset.ensures c.mark_coset-in-Some.ensures
