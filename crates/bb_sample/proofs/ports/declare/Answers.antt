use Rattle.std.proofs.Common.{◌≡◌, Err, None, ap, sym, ◌∙◌, arith, length}
use Rattle.bb_base.specs.Named.{lookup_of}
use Rattle.bb_net.proofs.OnlyMemory.{variable_memory}
use Rattle.bb_sample.proofs.VectorLemmas.{port_few}
use Rattle.bb_sample.proofs.ports.declare.Goals as goal

pub out_of_memory-requires : goal.out_of_memory-requires
out_of_memory-requires c =
    let b = c.args.builder.now in
    let fresh : lookup_of c.in_ok-name.name b ≡ None = ap (λ k. lookup_of k b) c.in_ok-name.ensures ∙ c.requires.fresh in
    let ports = port_few (length b.variables) c.args.role c.args.width c.requires.some in
    variable_memory c.in-Err.fault c.in-Err.ensures.only (λ number e. cc (sym fresh ∙ (c.in-Err.ensures.redeclared number).0 (ap Err e)))
    (λ count limit e. let too = (c.in-Err.ensures.many count limit).0 (ap Err e) in omega (arith, ports, c.requires.room, too.count_is, too.limit_is, too.beyond))
