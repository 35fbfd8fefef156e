use Rattle.std.proofs.Common.{arith, ℕ, sym, ap, ◌∙◌, ◌++◌, ◌∷◌, []}
use Rattle.arrayvec.specs.ArrayVec.{ArrayVec}
use Rattle.bb_terms.specs.Support.{stop_at}
use Rattle.bb_segment.proofs.WalkLemmas.{item_in}
use Rattle.bb_segment.proofs.SetLemmas.{kept_more, kept_same, kept_room}
use Rattle.bb_segment.proofs.supports.stops_among.Goals as goal
use Rattle.bb_segment.proofs.supports.stops_among.Goals.{then-is_stop, else-is_stop}

pub is_stop-requires : goal.is_stop-requires
is_stop-requires c =
    let inside = c.requires.within c.net-item.result (item_in c.args.nets.now c.nets.net-index c.net-item.result c.nets-test.true c.net-item.is) in
    omega (arith, inside, c.net.view_is)

pub push-requires : goal.push-requires
push-requires c =
    let stop = ap (stop_at c.args.stops.now) (sym c.net.view_is) ∙ sym c.is_stop.ensures ∙ c.if-is_stop.true in
    let room = kept_room (stop_at c.args.stops.now) c.args.nets.now c.nets.among.items c.nets.net-index c.net-item.result 16 c.nets-test.true c.net-item.is c.nets.invariant stop c.requires.few in
    (omega arith, omega (arith, room))

pub nets-preserved : goal.nets-preserved
nets-preserved c = elim c.if-is_stop.branch [
  | then-is_stop w ↦
      let stop = ap (stop_at c.args.stops.now) (sym c.net.view_is) ∙ sym c.is_stop.ensures ∙ w.if-is_stop.true in
      ap (λ (v : ArrayVec ℕ). v.items) w.among-is ∙ w.push.ensures.items ∙ ap (λ x. c.nets.among.items ++ x ∷ []) c.net.view_is
      ∙ kept_more (stop_at c.args.stops.now) c.args.nets.now c.nets.among.items c.nets.net-index c.net-item.result c.nets-test.true c.net-item.is c.nets.invariant stop
  | else-is_stop w ↦
      let stop = ap (stop_at c.args.stops.now) (sym c.net.view_is) ∙ sym c.is_stop.ensures ∙ w.if-is_stop.false in
      ap (λ (v : ArrayVec ℕ). v.items) w.among-is
      ∙ kept_same (stop_at c.args.stops.now) c.args.nets.now c.nets.among.items c.nets.net-index c.net-item.result c.nets-test.true c.net-item.is c.nets.invariant stop
]
