use Rattle.std.proofs.Common.{◌++◌, ◌∷◌, [], ◌+◌, ◌-◌}
use Rattle.bb_terms.specs.declared.wire.Wire.TheVariants.{Ring, RingNext}
use Rattle.bb_written.specs.Cells.{flop, ring_flops}
use Rattle.bb_ctl.proofs.RowLemmas.{more}
use Rattle.bb_lay.proofs.FlopLemmas.{rings_next}
use Rattle.bb_lay.proofs.flops.push_rings.Goals as goal

pub rings-preserved : goal.rings-preserved
rings-preserved c =
    let s = c.rings.s in
    let n = c.args.sessions in
    more c.rings.flops.items c.push.new.self.items (flop (Ring s) (RingNext s) ∷ []) (ring_flops s (n - s)) (ring_flops (s + 1) (n - (s + 1))) (c.args.flops.now.items ++ ring_flops 0 n) c.rings.invariant c.in_ok-push.ensures.items (rings_next s n c.rings-test.true)
