use Rattle.std.proofs.Common.{Err, ap, arith}
use Rattle.std.specs.List.{list_any}
use Rattle.bb_base.specs.Variables.{bit_at, bit_eq}
use Rattle.bb_net.proofs.ConsistentLemmas.{one_more}
use Rattle.bb_net.proofs.OnlyMemory.{net_memory}
use Rattle.bb_sample.proofs.VectorLemmas.{net_pushed}
use Rattle.bb_sample.proofs.ports.add_bit.Goals as goal

pub out_of_memory-requires : goal.out_of_memory-requires
out_of_memory-requires c =
    let names = c.args.builder.now.names in
    let bit = bit_at c.args.number c.args.place in
    net_memory c.in-Err.fault c.in-Err.ensures.only
    (λ count limit e. let too = ((c.in-Err.ensures.many count limit).0 (ap Err e)).0 in omega (arith, one_more (list_any (bit_eq bit) names) names bit, c.requires.room, too))

pub returns-in-Ok : goal.returns-in-Ok
returns-in-Ok c = net_pushed c.args.builder.now c.net.new.self c.args.number c.args.place c.requires.earlier c.in-Ok.ensures.ok
