use Rattle.bb_net.proofs.CountLemmas.{nets_few, variables_few, inputs_few, gates_few, flops_few}
use Rattle.bb_net.proofs.laws.nets_are_bits.Goals as goal

pub returns-clause-nets : goal.returns-clause-nets
returns-clause-nets c = nets_few

pub returns-clause-variables : goal.returns-clause-variables
returns-clause-variables c = variables_few

pub returns-clause-inputs : goal.returns-clause-inputs
returns-clause-inputs c = inputs_few

pub returns-clause-gates : goal.returns-clause-gates
returns-clause-gates c = gates_few

pub returns-clause-flops : goal.returns-clause-flops
returns-clause-flops c = flops_few
