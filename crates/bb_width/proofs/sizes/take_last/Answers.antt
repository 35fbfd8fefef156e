use Rattle.std.proofs.Common.{arith}
use Rattle.bb_width.proofs.SizeLaws.{drop_next, nets_next, constants_next}
use Rattle.bb_width.proofs.sizes.take_last.Goals as goal

pub loop-preserved : goal.loop-preserved
loop-preserved c =
    let n = c.args.count in
    let k = c.loop.counter in
    let h = c.loop-test.true in
    let rest = drop_next n k c.in-Some.a c.pop.new.self h in
    let nets = nets_next n k c.in-Some.a c.pop.new.self h in
    let constants = constants_next n k c.in-Some.a c.pop.new.self h in
    record {
      rest = grind (arith, rest, c.in-Some.ensures.some, c.loop.invariant.rest);
      few_nets = omega (arith, c.saturating_add-nets.ensures);
      nets = grind (arith, nets, c.in-Some.ensures.some, c.loop.invariant.nets, c.saturating_add-nets.ensures);
      few_constants = omega (arith, c.saturating_add-constants.ensures);
      constants = grind (arith, constants, c.in-Some.ensures.some, c.loop.invariant.constants, c.saturating_add-constants.ensures);
    }
