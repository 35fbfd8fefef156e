use Rattle.bb_segment.proofs.ShortLemmas.{short_supports}
use Rattle.bb_segment.proofs.laws.short_supports.Goals as goal

pub returns : goal.returns
returns c = short_supports
