use Rattle.std.proofs.Common.{arith, ap, sym, Err, ◌∙◌}
use Rattle.bb_net.proofs.OnlyMemory.{variable_memory}
use Rattle.bb_assemble.proofs.assembly.declare.Goals as goal

pub only_memory-requires : goal.only_memory-requires
only_memory-requires c =
    let redeclared = c.in-Err.ensures.redeclared in
    let many = c.in-Err.ensures.many in
    variable_memory c.in-Err.fault c.in-Err.ensures.only (λ number e. cc (sym c.requires.fresh ∙ (redeclared number).0 (ap Err e)))
    (λ count limit e. let too = (many count limit).0 (ap Err e) in omega (arith, c.requires.room, too.count_is, too.limit_is, too.beyond))
