use Rattle.bb_scope.proofs.UseLaws.{next_outs, next_ins}
use Rattle.bb_gates.proofs.prims.prim_made.Goals as goal

pub terminals_made-requires-clause-next : goal.terminals_made-requires-clause-next
terminals_made-requires-clause-next c =
    next_ins c.args.scope.now c.args.op c.args.terms.now c.parts_of.result.0.now c.parts_of.result.1.now c.args.uses.now c.behind_terms.result.now c.requires.next c.parts_of.ensures.outs c.parts_of.ensures.ins
    c.behind_terms.ensures

pub add_all_driven_bits-requires : goal.add_all_driven_bits-requires
add_all_driven_bits-requires c = next_outs c.args.scope.now c.args.op c.args.terms.now c.parts_of.result.0.now c.args.uses.now c.requires.next c.parts_of.ensures.outs
