use Rattle.std.proofs.Common.{arith, ◌≡◌, ◌+◌, Some, length, slice_get, ap, ◌∙◌, sym}
use Rattle.std.proofs.lemmas.Grind.{common_steps}
use Rattle.std.proofs.lemmas.Option.{slice_get_read}
use Rattle.bb_scope.specs.Numbers.{places_from}
use Rattle.bb_scope.proofs.ScopeLaws.{places-length, place-within}
use Rattle.bb_scope.proofs.scope.Scope.place.Goals as goal

pub index-requires : goal.index-requires
index-requires c =
    let long : length c.self.inside.places.items ≡ length c.self.inside.table.entries + 1 = ap length c.self.invariant.all ∙ places-length 0 c.self.inside.table.entries in
    let same : length c.self.inside.table.entries ≡ length c.args.self.now = ap length c.self.view_is in
    grind (arith, common_steps, long, same, c.requires)

pub returns-clause-place : goal.returns-clause-place
returns-clause-place c =
    let es = c.self.inside.table.entries in
    let long : length c.self.inside.places.items ≡ length es + 1 = ap length c.self.invariant.all ∙ places-length 0 es in
    let same : length es ≡ length c.args.self.now = ap length c.self.view_is in
    let at : slice_get c.self.inside.places.items c.args.index ≡ Some c.index.result.now =
    slice_get_read c.self.inside.places.items (length es + 1) c.args.index c.index.result.now (sym long) (omega (arith, same, c.requires)) c.index.ensures in
    (λ i. slice_get (places_from 0 (sym c.self.view_is i)) c.args.index) ∙ (ap (λ ps. slice_get ps c.args.index) (sym c.self.invariant.all) ∙ at)

pub returns-clause-few : goal.returns-clause-few
returns-clause-few c =
    let es = c.self.inside.table.entries in
    let long : length c.self.inside.places.items ≡ length es + 1 = ap length c.self.invariant.all ∙ places-length 0 es in
    let same : length es ≡ length c.args.self.now = ap length c.self.view_is in
    let at : slice_get c.self.inside.places.items c.args.index ≡ Some c.index.result.now =
    slice_get_read c.self.inside.places.items (length es + 1) c.args.index c.index.result.now (sym long) (omega (arith, same, c.requires)) c.index.ensures in
    let within = place-within 0 es c.args.index c.index.result.now (ap (λ ps. slice_get ps c.args.index) (sym c.self.invariant.all) ∙ at) in
    omega (arith, within, c.self.invariant.few)
