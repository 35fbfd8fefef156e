use Rattle.std.proofs.Common.{arith, ap, Err, ◌≡◌, length}
use Rattle.bb_base.specs.Variables.{bit_at}
use Rattle.bb_base.specs.Named.{Named}
use Rattle.bb_base.specs.Building.{with_net}
use Rattle.bb_net.proofs.OnlyMemory.{net_memory}
use Rattle.bb_lay.proofs.Bits.{net_stands, stands_any}
use Rattle.bb_lay.proofs.lay.number_of.Goals as goal

pub only_memory-requires : goal.only_memory-requires
only_memory-requires c =
    let bit = bit_at c.args.number c.args.place in
    let many = c.in-Err.ensures.many in
    let same : with_net c.args.builder.now bit ≡ c.args.builder.now = net_stands c.args.builder.now bit (stands_any bit c.args.builder.now.names c.requires.stands) in
    net_memory c.in-Err.fault c.in-Err.ensures.only (λ count limit e. let too = ((many count limit).0 (ap Err e)).0 in omega (arith, ap (λ (k : Named). length k.names) same, c.requires.few, too))
