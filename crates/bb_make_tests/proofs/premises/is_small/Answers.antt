use Rattle.std.proofs.Common.{arith}
use Rattle.bb_make_tests.proofs.Fit.{fit_few}
use Rattle.bb_make_tests.proofs.premises.is_small.Goals as goal

pub returns-clause-few : goal.returns-clause-few
returns-clause-few c = λ is. omega (arith, fit_few c.args.named.now.variables (c.all_fit.ensures is), c.variables.ensures.count, c.if-variables-gt2097152.false)
