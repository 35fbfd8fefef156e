use Rattle.std.proofs.Common.{arith, ◌<◌, ℕ, Option, Some, length, map, refl}
use Rattle.bb_base.proofs.Lists.{length_map}
use Rattle.bb_alike.proofs.ListLemmas.{item_at, image_at, agree_more, agree_all, differs, not_both}
use Rattle.bb_alike.proofs.NetLemmas.{entry}
use Rattle.bb_alike.proofs.drivers.are_same_nets.Goals as goal

pub returns-then-not-is_same_net : goal.returns-then-not-is_same_net
returns-then-not-is_same_net c =
    let from = c.args.from.now in
    let to = c.args.to.now in
    let low : c.nets.place < length from = omega arith in
    let high : c.nets.place < length to = omega arith in
    let at = item_at from c.nets.place c.index-from-place.result low c.index-from-place.is in
    let there = image_at {X = ℕ} {Y = Option ℕ} Some to c.nets.place c.index-to-place.result (item_at to c.nets.place c.index-to-place.result high c.index-to-place.is) in (
      λ e. absurd (cc e),
      λ same. absurd (differs (entry c.args.nets.now) from (map {A = ℕ} {B = Option ℕ} Some to) c.nets.place c.index-from-place.result (Some c.index-to-place.result) at there (λ p. not_both c.is_same_net.result (c.is_same_net.ensures.1 p) c.if-not-is_same_net.true) same),
    )

pub nets-preserved : goal.nets-preserved
nets-preserved c =
    let from = c.args.from.now in
    let to = c.args.to.now in
    let low : c.nets.place < length from = omega arith in
    let high : c.nets.place < length to = omega arith in
    let at = item_at from c.nets.place c.index-from-place.result low c.index-from-place.is in
    let there = image_at {X = ℕ} {Y = Option ℕ} Some to c.nets.place c.index-to-place.result (item_at to c.nets.place c.index-to-place.result high c.index-to-place.is) in
    agree_more (entry c.args.nets.now) from (map {A = ℕ} {B = Option ℕ} Some to) c.nets.place c.index-from-place.result (Some c.index-to-place.result) c.nets.invariant at there (c.is_same_net.ensures.0 c.if-not-is_same_net.false)

pub returns : goal.returns
returns c =
    let from = c.args.from.now in
    let to = c.args.to.now in
    let long = length_map {X = ℕ} {Y = Option ℕ} Some to in
    (λ e. agree_all (entry c.args.nets.now) from (map {A = ℕ} {B = Option ℕ} Some to) c.nets.place c.nets.invariant (omega (arith, long)) (omega (arith, long)), λ same. refl)
