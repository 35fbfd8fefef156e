use Rattle.std.proofs.Common.{◌≡◌, ◌<◌, length, ap, ◌∙◌, arith, slice_get, Some}
use Rattle.bb_base.proofs.Lists.{whole_written}
use Rattle.bb_terms.specs.declared.wire.Wire.TheVariants.{Kept}
use Rattle.bb_lay.proofs.TableLemmas.{read_is}
use Rattle.bb_lay.proofs.reads.reads_of.Goals as goal

pub returns-clause-each : goal.returns-clause-each
returns-clause-each c = λ net less.
    let below : net < c.nets.net = omega (arith, less, c.nets-test.false) in
    let long : length c.put_cells.new.reads ≡ length c.nets.reads.items = c.put_cells.auto.reads ∙ ap length c.deref_mut.ensures.value in
    let whole = whole_written c.nets.reads.len c.nets.reads.items c.put_cells.new.reads (omega arith) long in
    let old : slice_get c.deref_mut.result.now net ≡ Some (Kept net) = ap (λ ws. slice_get ws net) c.deref_mut.ensures.value ∙ c.nets.invariant.kept net below in
    ap (λ ws. slice_get ws net) whole ∙ c.put_cells.ensures net (Kept net) old ∙ ap Some (read_is 0 c.args.cells.now net)
