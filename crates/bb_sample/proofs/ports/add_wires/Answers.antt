use Rattle.std.proofs.Common.{sym, subst}
use Rattle.bb_sample.specs.Laying.{CanMake}
use Rattle.bb_sample.proofs.VectorLemmas.{can_make}
use Rattle.bb_sample.proofs.ports.add_wires.Goals as goal

pub add_bits-requires : goal.add_bits-requires
add_bits-requires c =
    subst (λ k. CanMake c.declare.new.builder k c.args.width) (sym c.in_ok-number.ensures.number) (can_make c.args.builder.now c.declare.new.builder c.args.name.now c.args.width c.requires c.in_ok-number.ensures.added)
