use Rattle.bb_grammar.proofs.Exact.{exact, one_module}
use Rattle.bb_grammar.proofs.laws.one_module.Goals as goal

pub returns-clause-exact : goal.returns-clause-exact
returns-clause-exact c = exact

pub returns-clause-one : goal.returns-clause-one
returns-clause-one c = one_module
