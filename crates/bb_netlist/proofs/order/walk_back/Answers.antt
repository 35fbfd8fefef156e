use Rattle.std.proofs.Common.{arith, ◌≡◌, ◌≤◌, ◌<◌, ◌∙◌, ap, sym, subst, ℕ, List, Some, length, slice_set}
use Rattle.std.proofs.lemmas.Grind.{common_steps}
use Rattle.std.proofs.lemmas.Option.{slice_get_within}
use Rattle.std.specs.Prelude.{Option}
use Rattle.bb_base.specs.Order.{IsLoop}
use Rattle.bb_netlist.proofs.WalkLemmas.{Walk, walk_on, walk_ends, place_read}
use Rattle.bb_netlist.proofs.OrderLemmas.{Stepped}
use Rattle.bb_netlist.proofs.order.walk_back.Goals as goal

pub split_off-requires : goal.split_off-requires
split_off-requires c =
    let w = c.steps.invariant in
    let small : c.steps.net < length c.steps.places.items = omega (arith, w.within, w.long) in
    let there = place_read c.steps.places.items c.net.inside.0 c.steps.net c.index.result.now c.net.view_is small c.index.ensures ∙ c.in-Some.is in
    let inside = slice_get_within c.steps.walk.items c.in-Some.place c.steps.net (w.seen c.steps.net c.in-Some.place w.within there) in
    grind (arith, common_steps, inside)

pub returns-in-Some : goal.returns-in-Some
returns-in-Some c =
    let w = c.steps.invariant in
    let small : c.steps.net < length c.steps.places.items = omega (arith, w.within, w.long) in
    let there = place_read c.steps.places.items c.net.inside.0 c.steps.net c.index.result.now c.net.view_is small c.index.ensures ∙ c.in-Some.is in
    let found = walk_ends c.args.netlist.now.gates c.args.depths.now c.steps.places.items c.args.start c.steps.walk.items c.steps.net c.in-Some.place c.requires.fit c.requires.by_depth c.requires.first w there in
    subst (IsLoop c.args.netlist.now.gates) (sym c.in_ok-nets.ensures.tail) found

pub overflow_cast-len : goal.overflow_cast-len
overflow_cast-len c =
    let w = c.steps.invariant in
    let walked : length c.steps.walk.items ≤ length c.args.depths.now = omega (arith, w.count) in
    grind (arith, common_steps, walked, c.requires.few, c.len.ensures)

pub steps-preserved : goal.steps-preserved
steps-preserved c =
    let w = c.steps.invariant in
    let small : c.steps.net < length c.steps.places.items = omega (arith, w.within, w.long) in
    let none = place_read c.steps.places.items c.net.inside.0 c.steps.net c.index.result.now c.net.view_is small c.index.ensures ∙ c.in_default.is in
    let step : Stepped c.args.depths.now c.args.netlist.now.gates c.steps.net c.step_back-net.result = record {
      within = c.step_back-net.ensures.within;
      no_depth = c.step_back-net.ensures.no_depth;
      first = c.step_back-net.ensures.first;
    } in
    let on = walk_on c.args.netlist.now.gates c.args.depths.now c.steps.places.items c.args.start c.steps.walk.items c.steps.net c.step_back-net.result w none step in
    let count : c.len.result ≡ length c.steps.walk.items = grind (arith, common_steps, c.len.ensures) in
    let places : slice_set c.steps.places.items c.net.inside.0 (Some c.len.result) ≡ slice_set c.steps.places.items c.steps.net (Some (length c.steps.walk.items)) =
    ap (λ k. slice_set c.steps.places.items k (Some c.len.result)) c.net.view_is ∙ ap (λ k. slice_set c.steps.places.items c.steps.net (Some k)) count in
    subst (λ (ps : List (Option ℕ)). Walk c.args.netlist.now.gates c.args.depths.now ps c.args.start c.push.new.self.items c.step_back-net.result) (sym places)
    (subst (λ (ns : List ℕ). Walk c.args.netlist.now.gates c.args.depths.now (slice_set c.steps.places.items c.steps.net (Some (length c.steps.walk.items))) c.args.start ns c.step_back-net.result)
    (sym c.in_ok-push.ensures.items) on)
