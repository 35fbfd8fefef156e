use Rattle.std.proofs.Common.{arith, ℕ, List, sym, ap, ◌∙◌, ◌++◌, ◌∷◌, [], take, subst}
use Rattle.std.proofs.lemmas.List.{take_more, take_all}
use Rattle.bb_terms.specs.Support.{stop_at}
use Rattle.bb_segment.proofs.WalkLemmas.{item_in}
use Rattle.bb_segment.proofs.TableLemmas.{Best, best_stop, best_on}
use Rattle.bb_segment.proofs.cutting.widest.Goals as goal
use Rattle.bb_segment.proofs.cutting.widest.Goals.{then-not-is_stop, else-not-is_stop}

pub is_stop-requires : goal.is_stop-requires
is_stop-requires c =
    let inside = c.requires.within c.net-item.result (item_in c.args.nets.now c.nets.net-index c.net-item.result c.nets-test.true c.net-item.is) in
    let long = c.requires.long in
    omega (arith, inside, long)

pub nets-preserved : goal.nets-preserved
nets-preserved c =
    let list = take_more c.args.nets.now c.nets.net-index c.net-item.result c.nets-test.true ∙ ap (λ (x : ℕ). take c.nets.net-index c.args.nets.now ++ x ∷ []) (sym c.net-item.is) in
    let old : Best (stop_at c.args.stops.now) c.args.table.now (take c.nets.net-index c.args.nets.now) c.nets.best = record { none = c.nets.invariant.none; within = c.nets.invariant.within; some = c.nets.invariant.some } in
    let inside = c.requires.within c.net-item.result (item_in c.args.nets.now c.nets.net-index c.net-item.result c.nets-test.true c.net-item.is) in
    let new : Best (stop_at c.args.stops.now) c.args.table.now (take c.nets.net-index c.args.nets.now ++ c.net-item.result ∷ []) c.if-not-is_stop.best = elim c.if-not-is_stop.branch [
      | then-not-is_stop w ↦ subst (Best (stop_at c.args.stops.now) c.args.table.now (take c.nets.net-index c.args.nets.now ++ c.net-item.result ∷ [])) (sym w.best-is)
          (best_on (stop_at c.args.stops.now) c.args.table.now (take c.nets.net-index c.args.nets.now) c.net-item.result c.nets.best w.rather.result (sym c.is_stop.ensures ∙ w.if-not-is_stop.true) inside old w.rather.ensures.none w.rather.ensures.some)
      | else-not-is_stop w ↦ subst (Best (stop_at c.args.stops.now) c.args.table.now (take c.nets.net-index c.args.nets.now ++ c.net-item.result ∷ [])) (sym w.best-is)
          (best_stop (stop_at c.args.stops.now) c.args.table.now (take c.nets.net-index c.args.nets.now) c.net-item.result c.nets.best (sym c.is_stop.ensures ∙ w.if-not-is_stop.false) old)
    ] in
    let all = subst (λ (ns : List ℕ). Best (stop_at c.args.stops.now) c.args.table.now ns c.if-not-is_stop.best) (sym list) new in
    record { none = all.none; within = all.within; some = all.some }

pub returns-clause-none : goal.returns-clause-none
returns-clause-none c =
    let all = take_all c.nets.net-index c.args.nets.now c.nets-test.false in
    let h = subst (λ (ns : List ℕ). Best (stop_at c.args.stops.now) c.args.table.now ns c.nets.best) all (record { none = c.nets.invariant.none; within = c.nets.invariant.within; some = c.nets.invariant.some }) in
    h.none

pub returns-clause-some : goal.returns-clause-some
returns-clause-some c =
    let all = take_all c.nets.net-index c.args.nets.now c.nets-test.false in
    let h = subst (λ (ns : List ℕ). Best (stop_at c.args.stops.now) c.args.table.now ns c.nets.best) all (record { none = c.nets.invariant.none; within = c.nets.invariant.within; some = c.nets.invariant.some }) in
    h.some
