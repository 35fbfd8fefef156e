use Rattle.std.proofs.Common.{arith, sym, ap, Err, refl, ◌∙◌, [], ◌∷◌, length}
use Rattle.bb_net.proofs.OnlyMemory.{variable_memory}
use Rattle.bb_lay.proofs.Standing.{bits_join, last_few, last_entry, last_ports, last_new, port_few}
use Rattle.bb_lay.proofs.declare.declare.Goals as goal

pub variable-requires-clause-few : goal.variable-requires-clause-few
variable-requires-clause-few c =
    let few = last_few c.args.builder.now.variables (c.args.name, c.args.variable) c.requires.stand in
    omega (arith, few)

pub variable-requires-clause-range : goal.variable-requires-clause-range
variable-requires-clause-range c = (last_entry c.args.builder.now.variables (c.args.name, c.args.variable) c.requires.stand).range

pub variable-requires-clause-ports_first : goal.variable-requires-clause-ports_first
variable-requires-clause-ports_first c = last_ports c.args.builder.now.variables (c.args.name, c.args.variable) c.requires.stand

pub only_memory-requires : goal.only_memory-requires
only_memory-requires c =
    let vs = c.args.builder.now.variables in
    let redeclared = c.in-Err.ensures.redeclared in
    let many = c.in-Err.ensures.many in
    let fresh = last_new vs (c.args.name, c.args.variable) c.requires.stand c.args.builder.now refl in
    let ports = port_few (length vs) c.args.variable c.args.clock (λ p e. (c.requires.clock p e).within) in
    variable_memory c.in-Err.fault c.in-Err.ensures.only (λ number e. cc (sym fresh ∙ (redeclared number).0 (ap Err e)))
    (λ count limit e. let too = (many count limit).0 (ap Err e) in omega (arith, ports, c.requires.laid.few, c.requires.stand.few, bits_join vs ((c.args.name, c.args.variable) ∷ []), too.count_is, too.limit_is, too.beyond))
