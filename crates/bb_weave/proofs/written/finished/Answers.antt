use Rattle.std.proofs.Common.{arith, ap, Err}
use Rattle.bb_net.proofs.OnlyMemory.{finish_memory}
use Rattle.bb_weave.proofs.written.finished.Goals as goal

pub out_of_memory-requires : goal.out_of_memory-requires
out_of_memory-requires c =
    let h = c.in-Err.ensures in
    finish_memory c.in-Err.fault h.only
    (λ net e. let first = h.two net (ap Err e) in omega (arith, c.requires.once h.fits net first.within, first.here))
    (λ net e. let first = h.none net (ap Err e) in omega (arith, c.requires.once h.fits net first.within, first.here))
