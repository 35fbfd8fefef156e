use Rattle.std.proofs.Common.{◌≡◌, ◌<◌, [], ◌∷◌, length, true, false, ap, ◌∙◌, arith, length-append}
use Rattle.std.proofs.lemmas.Bool.Decides.{nat_tests}
use Rattle.bb_forms.specs.Reading.{listed_items}
use Rattle.bb_forms.specs.CertificateStages.{pair_at}
use Rattle.bb_forms.proofs.CertificateLemmas.{pair_shorter}
use Rattle.bb_forms.proofs.ItemLemmas.{with_items, items_start, items_last, items_go, items_stop, items_over, some_left, none_left}
use Rattle.bb_forms.proofs.certificate_reader.read_pairs.Goals as goal

pub pairs-init : goal.pairs-init
pairs-init c = (16, omega (arith, ap length c.new-pairs.ensures), ap (λ z. with_items z (listed_items pair_at 16 c.args.bytes.now)) c.new-pairs.ensures ∙ items_start pair_at (listed_items pair_at 16 c.args.bytes.now))

pub returns-then-is_full : goal.returns-then-is_full
returns-then-is_full c =
    let more : c.is_empty.result ≡ false = grind (arith, nat_tests, c.pairs-test.true) in
    let full : length c.pairs.pairs.items ≡ 16 = grind (arith, nat_tests, c.is_full.ensures.value, c.if-is_full.true) in
    items_over pair_at c.pairs.invariant.0 c.pairs.pairs.items c.pairs.rest.now _ (omega (arith, c.pairs.invariant.1, full)) (some_left c.pairs.rest.now c.is_empty.result c.is_empty.ensures more) c.pairs.invariant.2

pub returns-in-Err : goal.returns-in-Err
returns-in-Err c =
    let more : c.is_empty.result ≡ false = grind (arith, nat_tests, c.pairs-test.true) in
    let room : length c.pairs.pairs.items < 16 = grind (arith, nat_tests, c.is_full.ensures.value, c.is_full.ensures.fits, c.if-is_full.false) in
    items_stop pair_at c.in-Err.fault c.pairs.invariant.0 c.pairs.pairs.items c.pairs.rest.now _ (omega (arith, c.pairs.invariant.1, room)) (some_left c.pairs.rest.now c.is_empty.result c.is_empty.ensures more) c.in-Err.ensures c.pairs.invariant.2

pub pairs-smaller : goal.pairs-smaller
pairs-smaller c = pair_shorter c.pairs.rest.now c.in-Ok.read.0 c.in-Ok.read.1.now c.in-Ok.ensures

pub pairs-preserved : goal.pairs-preserved
pairs-preserved c =
    let more : c.is_empty.result ≡ false = grind (arith, nat_tests, c.pairs-test.true) in
    let room : length c.pairs.pairs.items < 16 = grind (arith, nat_tests, c.is_full.ensures.value, c.is_full.ensures.fits, c.if-is_full.false) in
    let go = items_go pair_at c.pairs.invariant.0 c.pairs.pairs.items c.push.new.self.items c.in-Ok.read.0 c.pairs.rest.now c.in-Ok.read.1.now _ (omega (arith, c.pairs.invariant.1, room)) (some_left c.pairs.rest.now c.is_empty.result c.is_empty.ensures more) c.in-Ok.ensures c.push.ensures.items
    c.pairs.invariant.2 in
    (go.0, omega (arith, go.1, c.pairs.invariant.1, ap length c.push.ensures.items, length-append c.pairs.pairs.items (c.in-Ok.read.0 ∷ [])), go.2)

pub returns : goal.returns
returns c =
    let none : c.is_empty.result ≡ true = grind (arith, nat_tests, c.pairs-test.false) in
    items_last pair_at c.pairs.pairs.items c.pairs.invariant.0 c.pairs.rest.now _ (none_left c.pairs.rest.now c.is_empty.result c.is_empty.ensures none) c.pairs.invariant.2
