use Rattle.bb_terms.proofs.NetLemmas.{d_is}
use Rattle.bb_terms.proofs.StopLemmas.{gives_q, takes_its_d, flop_free}
use Rattle.bb_rules.proofs.laws.flops_have_cells.Goals as goal

pub returns-clause-gives : goal.returns-clause-gives
returns-clause-gives c = gives_q

pub returns-clause-takes : goal.returns-clause-takes
returns-clause-takes c = takes_its_d

pub returns-clause-d : goal.returns-clause-d
returns-clause-d c = d_is

pub returns-clause-free : goal.returns-clause-free
returns-clause-free c = flop_free
