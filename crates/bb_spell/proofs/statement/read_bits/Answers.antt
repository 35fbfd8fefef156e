use Rattle.std.proofs.Common.{sym, ◌∙◌}
use Rattle.bb_spell.proofs.MoreBits.{bits_shorter, bits_kept, bits_last, bits_fail}
use Rattle.bb_spell.proofs.statement.read_bits.Goals as goal

pub returns : goal.returns
returns c = bits_last c.bits.bits.items c.bits.rest.now _ (sym c.begins_with.ensures ∙ c.bits-test.false) c.bits.invariant

pub returns-in-Err : goal.returns-in-Err
returns-in-Err c = bits_fail c.in-Err.fault c.bits.bits.items c.bits.rest.now c.split_at.result.1.now _ (sym c.begins_with.ensures ∙ c.bits-test.true) c.split_at.ensures.back c.in-Err.ensures c.bits.invariant

pub bits-smaller : goal.bits-smaller
bits-smaller c = bits_shorter c.bits.rest.now c.split_at.result.1.now c.in-Ok.read.0 c.in-Ok.read.1.now (sym c.begins_with.ensures ∙ c.bits-test.true) c.split_at.ensures.back c.in-Ok.ensures

pub bits-preserved : goal.bits-preserved
bits-preserved c =
    bits_kept c.bits.bits.items c.push.new.self.items c.bits.rest.now c.split_at.result.1.now c.in-Ok.read.1.now c.in-Ok.read.0 _ (sym c.begins_with.ensures ∙ c.bits-test.true) c.split_at.ensures.back c.in-Ok.ensures c.in_ok-push.ensures.items
    c.bits.invariant
