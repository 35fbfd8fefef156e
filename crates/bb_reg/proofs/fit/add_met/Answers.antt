use Rattle.std.proofs.Common.{arith}
use Rattle.std.proofs.lemmas.Grind.{common_steps}
use Rattle.std.proofs.lemmas.List.Folds.{list_any_more}
use Rattle.std.specs.List.{list_any}
use Rattle.bb_reg.specs.Fitting.{is_home, numbers_at}
use Rattle.bb_reg.proofs.fit.add_met.Goals as goal

pub nets-preserved : goal.nets-preserved
nets-preserved c = λ g.
    let before = c.nets.invariant g in
    let step = c.in_ok-add_homes.ensures g in
    let more = list_any_more (λ net. list_any (is_home c.args.homes.now g) (numbers_at c.args.index.now net)) c.args.nets.now c.nets.net-index 0 c.nets-test.true in
    grind (arith, common_steps, before, step, more, c.numbers.ensures)
