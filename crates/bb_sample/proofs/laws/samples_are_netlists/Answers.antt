use Rattle.bb_sample.specs.Sample.{is_clocked}
use Rattle.bb_sample.proofs.NameLemmas.{by_bits, none_reserved, few_bits}
use Rattle.bb_sample.proofs.WholeLemmas.{sample_named}
use Rattle.bb_sample.proofs.RankLemmas.{sample_order}
use Rattle.bb_sample.proofs.laws.samples_are_netlists.Goals as goal

pub returns-clause-named : goal.returns-clause-named
returns-clause-named c = sample_named

pub returns-clause-by_bits : goal.returns-clause-by_bits
returns-clause-by_bits c = by_bits

pub returns-clause-order : goal.returns-clause-order
returns-clause-order c = sample_order

pub returns-clause-own : goal.returns-clause-own
returns-clause-own c = λ number. none_reserved (is_clocked number) number

pub returns-clause-few : goal.returns-clause-few
returns-clause-few c = λ number. few_bits (is_clocked number) number
