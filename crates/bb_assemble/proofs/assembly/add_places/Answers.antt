use Rattle.std.proofs.Common.{◌≤◌, length, ap, Err, ◌≡◌, ◌+◌, true, false, ◌∙◌, arith}
use Rattle.std.proofs.lemmas.Bool.Decides.{nat_tests}
use Rattle.bb_assemble.specs.Assembling.{is_kept}
use Rattle.bb_base.specs.Variables.{bit_at}
use Rattle.bb_base.specs.Building.{net_limit, with_net}
use Rattle.bb_net.proofs.OnlyMemory.{net_memory}
use Rattle.bb_assemble.proofs.RoomLaws.{net_room}
use Rattle.bb_assemble.proofs.PlaceSteps.{place_kept, place_left}
use Rattle.bb_assemble.proofs.assembly.add_places.Goals as goal
use Rattle.bb_assemble.proofs.assembly.add_places.Goals.{then-numbers-extent+in-Ok, else-numbers-extent}

pub loop-place-preserved : goal.loop-place-preserved
loop-place-preserved c =
    let keeps = is_kept c.args.numbers.now c.args.count in
    elim c.if-numbers-extent.branch [
      | then-numbers-extent+in-Ok w ↦
          let kept : keeps (c.args.extent.first + c.loop-place.place) ≡ true = grind (arith, nat_tests, w.if-numbers-extent.true) in
          let step = place_kept c.args.builder.now c.loop-place.builder c.if-numbers-extent.builder keeps c.args.extent.number c.args.extent.first c.loop-place.place c.loop-place.invariant.builder c.loop-place.invariant.earlier kept (w.builder-is ∙ w.in-Ok.ensures.ok) in
          record { builder = step.0; earlier = step.1 }
      | else-numbers-extent w ↦
          let left : keeps (c.args.extent.first + c.loop-place.place) ≡ false = grind (arith, nat_tests, w.if-numbers-extent.false) in
          let step = place_left c.args.builder.now c.if-numbers-extent.builder keeps c.args.extent.number c.args.extent.first c.loop-place.place (w.builder-is ∙ c.loop-place.invariant.builder) (rw w.builder-is c.loop-place.invariant.earlier) left in
          record { builder = step.0; earlier = step.1 }
    ]

pub only_memory-requires : goal.only_memory-requires
only_memory-requires c =
    let builder = c.loop-place.builder in
    let bit = bit_at c.args.extent.number c.loop-place.place in
    let room : length (with_net builder bit).names ≤ net_limit =
    net_room c.args.builder.now builder (is_kept c.args.numbers.now c.args.count) c.args.extent.number c.args.extent.first c.loop-place.place c.args.extent.width (length c.args.numbers.now) bit c.loop-place.invariant.builder c.requires.names
    c.loop-place-test.true c.requires.within c.requires.room in
    let many = c.in-Err.ensures.many in
    net_memory c.in-Err.fault c.in-Err.ensures.only (λ count limit e. omega (arith, room, ((many count limit).0 (ap Err e)).0))
