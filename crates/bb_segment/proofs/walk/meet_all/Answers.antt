use Rattle.std.proofs.Common.{arith, take, sym, subst, ◌∙◌, ap, ◌++◌, ◌∷◌, []}
use Rattle.std.proofs.lemmas.List.{take_more}
use Rattle.bb_segment.specs.Walks.{HasMore}
use Rattle.bb_segment.proofs.WalkLemmas.{item_in, met_then, front_of}
use Rattle.bb_segment.proofs.walk.meet_all.Goals as goal

pub meet-end-requires-clause-within : goal.meet-end-requires-clause-within
meet-end-requires-clause-within c =
    let inside = c.requires.within c.net-item.result (item_in c.args.nets.now c.nets.net-index c.net-item.result c.nets-test.true c.net-item.is) in
    let long = c.nets.invariant.long in
    omega (arith, inside, long)

pub nets-preserved : goal.nets-preserved
nets-preserved c =
    let list = take_more c.args.nets.now c.nets.net-index c.net-item.result c.nets-test.true ∙ ap (λ x. take c.nets.net-index c.args.nets.now ++ x ∷ []) (sym c.net-item.is) in
    record {
      long = c.meet-end.ensures.long ∙ c.nets.invariant.long;
      met = c.meet-end.ensures.met;
      front = front_of c.args.end c.nets.end c.meet-end.new.met c.nets.met c.nets.invariant.more c.meet-end.ensures.front ∙ c.nets.invariant.front;
      more = let a = c.nets.invariant.more in let b = c.meet-end.ensures.more in omega (arith, a, b);
      has = subst (λ ns. HasMore (take c.args.end c.args.met.now) ns (take c.meet-end.result c.meet-end.new.met)) (sym list)
          (met_then (take c.args.end c.args.met.now) (take c.nets.net-index c.args.nets.now) (take c.nets.end c.nets.met) (take c.meet-end.result c.meet-end.new.met) c.net-item.result c.nets.invariant.has c.meet-end.ensures.has);
    }
