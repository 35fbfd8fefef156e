use Rattle.std.proofs.Common.{◌≡◌, true, false, arith}
use Rattle.std.proofs.lemmas.Bool.Decides.{nat_tests}
use Rattle.bb_forms.specs.Fields.{field_limit}
use Rattle.bb_forms.specs.Reading.{front_number}
use Rattle.bb_forms.proofs.ScheduleLemmas.{number_shorter}
use Rattle.bb_forms.proofs.ItemLemmas.{items_last, items_go, items_stop, some_left, none_left, long_left}
use Rattle.bb_forms.proofs.schedule_reader.read_numbers.Goals as goal

pub returns-in-Err : goal.returns-in-Err
returns-in-Err c =
    let more : c.is_empty.result ≡ false = grind (arith, nat_tests, c.numbers-test.true) in
    let left = some_left c.numbers.rest.now c.is_empty.result c.is_empty.ensures more in
    items_stop (front_number field_limit) c.in-Err.fault c.numbers.invariant.0 c.numbers.numbers.items c.numbers.rest.now _ (omega (arith, c.numbers.invariant.1, long_left c.numbers.rest.now left)) left c.in-Err.ensures c.numbers.invariant.2

pub numbers-smaller : goal.numbers-smaller
numbers-smaller c = number_shorter c.numbers.rest.now c.in-Ok.read.0 c.in-Ok.read.1.now c.in-Ok.ensures

pub numbers-preserved : goal.numbers-preserved
numbers-preserved c =
    let more : c.is_empty.result ≡ false = grind (arith, nat_tests, c.numbers-test.true) in
    let left = some_left c.numbers.rest.now c.is_empty.result c.is_empty.ensures more in
    let go = items_go (front_number field_limit) c.numbers.invariant.0 c.numbers.numbers.items c.push.new.self.items c.in-Ok.read.0 c.numbers.rest.now c.in-Ok.read.1.now _ (omega (arith, c.numbers.invariant.1, long_left c.numbers.rest.now left)) left c.in-Ok.ensures c.in_ok-push.ensures.items c.numbers.invariant.2 in
    (go.0, omega (arith, go.1, c.numbers.invariant.1, number_shorter c.numbers.rest.now c.in-Ok.read.0 c.in-Ok.read.1.now c.in-Ok.ensures), go.2)

pub returns : goal.returns
returns c =
    let none : c.is_empty.result ≡ true = grind (arith, nat_tests, c.numbers-test.false) in
    items_last (front_number field_limit) c.numbers.numbers.items c.numbers.invariant.0 c.numbers.rest.now _ (none_left c.numbers.rest.now c.is_empty.result c.is_empty.ensures none) c.numbers.invariant.2
