use Rattle.std.proofs.Common.{arith}
use Rattle.bb_base.proofs.TimesLemmas.{length_once}
use Rattle.bb_base.proofs.drivers.place_drivers.Goals as goal

pub driver_places-requires-clause-few : goal.driver_places-requires-clause-few
driver_places-requires-clause-few c =
    omega (arith, length_once c.args.nets c.args.driven.now c.requires c.in-Ok.ensures.once)

pub returns-in_ok-driver_places-in-Ok-clause-each : goal.returns-in_ok-driver_places-in-Ok-clause-each
returns-in_ok-driver_places-in-Ok-clause-each c = λ m less. c.in_ok-driver_places-in-Ok.ensures.each m less (omega (arith, c.in-Ok.ensures.once m less))

pub returns-in-Err-clause-order : goal.returns-in-Err-clause-order
returns-in-Err-clause-order c = λ net e. c.in-Err.ensures.order net (cc)
