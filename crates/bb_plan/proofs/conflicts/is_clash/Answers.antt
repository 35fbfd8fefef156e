use Rattle.std.proofs.Common.{◌∙◌}
use Rattle.bb_plan.proofs.ClashLemmas.{clash_by_stamps, low_stamps}
use Rattle.bb_plan.proofs.conflicts.is_clash.Goals as goal

pub returns-clause-clash : goal.returns-clause-clash
returns-clause-clash c = c.any_fed.ensures ∙ clash_by_stamps c.args.feeders.now c.args.session.now c.args.stamps.now c.stamp.new.stamps c.args.number c.requires.long c.requires.low c.requires.feeders c.stamp.ensures.each

pub returns-clause-low : goal.returns-clause-low
returns-clause-low c = low_stamps c.args.session.now c.args.stamps.now c.stamp.new.stamps c.args.number c.stamp.ensures.long c.requires.low c.stamp.ensures.each
