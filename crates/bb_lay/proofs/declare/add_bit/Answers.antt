use Rattle.std.proofs.Common.{arith, ap, Err}
use Rattle.bb_base.specs.Variables.{bit_at}
use Rattle.bb_net.proofs.OnlyMemory.{net_memory}
use Rattle.bb_lay.proofs.Bits.{net_length, net_pushed}
use Rattle.bb_lay.proofs.declare.add_bit.Goals as goal

pub only_memory-requires : goal.only_memory-requires
only_memory-requires c =
    let many = c.in-Err.ensures.many in
    net_memory c.in-Err.fault c.in-Err.ensures.only (λ count limit e. let too = ((many count limit).0 (ap Err e)).0 in omega (arith, net_length c.args.builder.now (bit_at c.args.number c.args.place), c.requires.room, too))

pub returns-in-Ok : goal.returns-in-Ok
returns-in-Ok c = net_pushed c.args.builder.now c.net.new.self c.args.number c.args.place c.requires.earlier c.in-Ok.ensures.ok
