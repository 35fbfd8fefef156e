use Rattle.std.proofs.Common.{arith, ◌<◌, ◌+◌, ◌*◌, ◌^◌, get_or, length-set, ap, subst, sym, ◌∙◌}
use Rattle.std.specs.Int.{bit_at}
use Rattle.bb_eqn.proofs.SourceLemmas.{put_bit, row_done, row_left}
use Rattle.bb_eqn.proofs.source.put_state.Goals as goal

pub loop-bit-preserved : goal.loop-bit-preserved
loop-bit-preserved c =
    let rows = c.loop-bit.rows in
    let old = c.args.rows.now in
    let bit = c.loop-bit.bit in
    let same = c.loop-bit.invariant.left bit (omega arith) in
    let small : get_or rows bit 0 < 2 ^ c.args.place = subst (λ n. n < 2 ^ c.args.place) (sym same) (c.requires.fresh bit c.loop-bit-test.true) in
    let put = put_bit (get_or rows bit 0) c.from.result c.args.state bit c.args.place c.requires.place small c.from.ensures in
    record {
      long = length-set rows bit _ ∙ c.loop-bit.invariant.long;
      done = row_done (λ i. bit_at c.args.state i * 2 ^ c.args.place + get_or old i 0) rows bit _ (omega (arith, c.loop-bit.invariant.long)) (put ∙ ap (λ n. bit_at c.args.state bit * 2 ^ c.args.place + n) same) c.loop-bit.invariant.done;
      left = row_left rows old bit _ c.loop-bit.invariant.left;
    }
