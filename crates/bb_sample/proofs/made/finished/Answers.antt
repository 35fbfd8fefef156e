use Rattle.std.proofs.Common.{◌≡◌, ◌↔◌, ℕ, ◌<◌, length, IsSome, Err, sym, ap, subst, arith}
use Rattle.bb_base.specs.Net.{driven, times}
use Rattle.bb_base.specs.Named.{Named}
use Rattle.bb_net.proofs.OnlyMemory.{finish_memory}
use Rattle.bb_sample.proofs.WholeLemmas.{clocked, one_driver, names_count}
use Rattle.bb_sample.proofs.made.finished.Goals as goal

pub finish-requires : goal.finish-requires
finish-requires c = record { clock = subst (λ (k : Named). IsSome k.clock ↔ (0 < length k.netlist.flops)) (sym c.requires.filled) (clocked c.args.number) }

pub out_of_memory-requires : goal.out_of_memory-requires
out_of_memory-requires c =
    let h = c.in-Err.ensures in
    let once : (net : ℕ) → net < length c.args.builder.names → times net (driven c.args.builder.netlist) ≡ 1 =
    subst (λ (k : Named). (net : ℕ) → net < length k.names → times net (driven k.netlist) ≡ 1) (sym c.requires.filled) (λ net within. one_driver c.args.number net (omega (arith, within, names_count c.args.number))) in
    finish_memory c.in-Err.fault h.only
    (λ net e. let first = h.two net (ap Err e) in omega (arith, once net first.within, first.here))
    (λ net e. let first = h.none net (ap Err e) in omega (arith, once net first.within, first.here))
