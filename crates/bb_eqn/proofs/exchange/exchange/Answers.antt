use Rattle.std.proofs.Common.{arith, ◌∙◌, length-set}
use Rattle.bb_eqn.specs.Transposed.{exchanged_bit}
use Rattle.bb_eqn.proofs.TransposeLemmas.{row_more}
use Rattle.bb_eqn.proofs.exchange.exchange.Goals as goal

pub loop-row-preserved : goal.loop-row-preserved
loop-row-preserved c =
    let rows = c.loop-row.block in
    let row = c.loop-row.row in
    record {
      long = length-set rows row c.exchanged_row.result ∙ c.loop-row.invariant.long;
      done = row_more (exchanged_bit c.args.step c.args.block.now) rows row c.exchanged_row.result (omega (arith, c.loop-row-test.true, c.loop-row.invariant.long)) c.exchanged_row.ensures c.loop-row.invariant.done;
    }
