use Rattle.std.proofs.Common.{arith}
use Rattle.bb_scope.proofs.SaidLaws.{redeclared_said}
use Rattle.bb_scope.proofs.said.declared.Goals as goal

pub returns-clause-fault : goal.returns-clause-fault
returns-clause-fault c =
    redeclared_said c.args.module.now c.declare_items.new.self.clash
    (grind (arith, c.in_ok-declare_header.ensures.clash, c.in_ok-declare_header.ensures.said, c.in_ok-declare_items.ensures.clash, c.new.ensures.empty, c.as_slice.ensures))
