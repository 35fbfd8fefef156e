use Rattle.std.proofs.Common.{arith, sym, subst}
use Rattle.std.proofs.lemmas.Grind.{common_steps}
use Rattle.bb_base.specs.Firsts.{IsLeast}
use Rattle.bb_choose.specs.Choice.{IsUnmasked}
use Rattle.bb_choose.proofs.MaskLemmas.{least_unmasked, masks_more, before_more}
use Rattle.bb_choose.proofs.masks.masks_of.Goals as goal

pub returns-in-Err-clause-fault : goal.returns-in-Err-clause-fault
returns-in-Err-clause-fault c =
    subst (IsLeast (IsUnmasked c.args.registers.now)) (sym c.in-Err.ensures.fault.0) (least_unmasked c.args.registers.now c.lengths.cells c.requires.some c.lengths.invariant.before c.in-Err.ensures.fault.1)

pub lengths-preserved : goal.lengths-preserved
lengths-preserved c =
    let long = c.lengths.invariant.long in
    let items = c.push-in-Ok.ensures.items in
    record {
      long = grind (arith, common_steps, long, items);
      masks = masks_more c.args.registers.now c.lengths.masks.items c.push-in-Ok.new.self.items c.lengths.cells c.in-Ok.mask long items c.lengths.invariant.masks c.in-Ok.ensures.mask;
      before = before_more c.args.registers.now c.lengths.cells c.in-Ok.mask c.lengths.invariant.before c.in-Ok.ensures.mask;
    }
