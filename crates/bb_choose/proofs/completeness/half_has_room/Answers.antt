use Rattle.bb_choose.proofs.HalfRoom.{half_enough}
use Rattle.bb_choose.proofs.completeness.half_has_room.Goals as goal

pub returns : goal.returns
returns c = half_enough
