use Rattle.bb_compile.proofs.PlanEnds.{EnoughLaws}
use Rattle.bb_compile.proofs.CallEnds.{never_lacking, sample_never_lacking}
use Rattle.bb_compile.proofs.laws.room_is_enough.Goals as goal

pub returns-clause-texts : goal.returns-clause-texts
returns-clause-texts c =
    let laws : EnoughLaws = record {
      gate = c.enough_is_chosen.ensures.gate;
      degree = c.enough_is_chosen.ensures.degree;
      limit = c.enough_is_chosen.ensures.limit;
      period = c.enough_is_chosen.ensures.period;
    } in
    never_lacking c.one_end_of.ensures.one c.one_order.ensures c.read_netlists_are_ready.ensures.texts laws

pub returns-clause-samples : goal.returns-clause-samples
returns-clause-samples c =
    let laws : EnoughLaws = record {
      gate = c.enough_is_chosen.ensures.gate;
      degree = c.enough_is_chosen.ensures.degree;
      limit = c.enough_is_chosen.ensures.limit;
      period = c.enough_is_chosen.ensures.period;
    } in
    sample_never_lacking c.one_order.ensures c.samples_are_ready.ensures laws
