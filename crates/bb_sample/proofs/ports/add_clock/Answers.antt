use Rattle.std.proofs.Common.{◌≡◌, Err, Some, None, ap, sym, ◌∙◌, arith, length}
use Rattle.bb_base.specs.Named.{Named, lookup_of}
use Rattle.bb_base.specs.Building.{with_variable}
use Rattle.bb_net.proofs.OnlyMemory.{variable_memory}
use Rattle.bb_sample.proofs.StageLemmas.{clock_variable, clock_added}
use Rattle.bb_sample.proofs.ports.add_clock.Goals as goal

pub out_of_memory-requires : goal.out_of_memory-requires
out_of_memory-requires c =
    let fresh : lookup_of c.in_ok-name.name c.args.builder.now ≡ None = ap (λ (k : Named). lookup_of c.in_ok-name.name k) c.requires in
    let none : length c.args.builder.now.names ≡ 0 = ap (λ (k : Named). length k.names) c.requires in
    variable_memory c.in-Err.fault c.in-Err.ensures.only (λ number e. cc (sym fresh ∙ (c.in-Err.ensures.redeclared number).0 (ap Err e)))
    (λ count limit e. let too = (c.in-Err.ensures.many count limit).0 (ap Err e) in omega (arith, none, too.count_is, too.limit_is, too.beyond))

pub returns-in-Ok : goal.returns-in-Ok
returns-in-Ok c = c.in-Ok.ensures.ok ∙ (λ i. with_variable (c.requires i) (c.in_ok-name.ensures i) clock_variable (Some 0)) ∙ clock_added
