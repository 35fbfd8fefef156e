use Rattle.std.proofs.Common.{◌≡◌, ◌<◌, length, ap, ◌∙◌, arith, slice_get, Some}
use Rattle.bb_base.proofs.Lists.{whole_written}
use Rattle.bb_lay.proofs.TableLemmas.{d_is}
use Rattle.bb_lay.proofs.reads.ds_of.Goals as goal

pub returns-clause-each : goal.returns-clause-each
returns-clause-each c = λ net less.
    let below : net < c.nets.net = omega (arith, less, c.nets-test.false) in
    let long : length c.put_flops.new.ds ≡ length c.nets.ds.items = c.put_flops.auto.ds ∙ ap length c.deref_mut.ensures.value in
    let whole = whole_written c.nets.ds.len c.nets.ds.items c.put_flops.new.ds (omega arith) long in
    let old : slice_get c.deref_mut.result.now net ≡ Some net = ap (λ ws. slice_get ws net) c.deref_mut.ensures.value ∙ c.nets.invariant.kept net below in
    ap (λ ws. slice_get ws net) whole ∙ c.put_flops.ensures net net old ∙ ap Some (d_is c.args.flops.now net)
