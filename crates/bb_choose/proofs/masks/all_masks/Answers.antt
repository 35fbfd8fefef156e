use Rattle.bb_choose.proofs.MaskLemmas.{degree_first, masks_each}
use Rattle.bb_choose.proofs.masks.all_masks.Goals as goal

pub returns-in-Ok-masks_of-clause-masks : goal.returns-in-Ok-masks_of-clause-masks
returns-in-Ok-masks_of-clause-masks c = masks_each c.args.registers.now c.in-Ok-masks_of.masks.items c.requires.some c.requires.few c.in-Ok-masks_of.ensures.masks

pub returns-in-Err-clause-fault : goal.returns-in-Err-clause-fault
returns-in-Err-clause-fault c = degree_first c.args.degree c.in-Err.fault.degree c.args.registers.now c.in-Err.ensures.degree c.in-Err.ensures.none
