use Rattle.std.proofs.Common.{arith, ◌≡◌, ◌<◌, ℕ, length, List, take}
use Rattle.bb_terms.specs.Support.{stop_at, HasLeaves}
use Rattle.bb_segment.specs.Among.{AreStops}
use Rattle.bb_segment.proofs.Outcomes.{ok_then, err_then}
use Rattle.bb_segment.proofs.WalkLemmas.{met_within}
use Rattle.bb_segment.proofs.StartLemmas.{has_leaves}
use Rattle.bb_segment.proofs.supports.walk_leaves.Goals as goal

pub leaves_among-result-requires-clause-within : goal.leaves_among-result-requires-clause-within
leaves_among-result-requires-clause-within c = λ net h.
    let inside = met_within c.fill-end.new.marks c.fill-end.new.met c.fill-end.result net c.fill-end.ensures.met h in
    let long = c.fill-end.ensures.long in
    let nets = c.requires.nets in
    let stops = c.requires.stops in
    omega (arith, inside, long, nets, stops)

pub clear-requires-clause-within : goal.clear-requires-clause-within
clear-requires-clause-within c = λ net h. met_within c.fill-end.new.marks c.fill-end.new.met c.fill-end.result net c.fill-end.ensures.met h

pub returns-clause-leaves : goal.returns-clause-leaves
returns-clause-leaves c =
    ok_then (λ leaves. AreStops (stop_at c.args.stops.now) (take c.fill-end.result c.fill-end.new.met) leaves.items) (λ leaves. HasLeaves c.args.netlist.now.gates c.args.stops.now c.args.start leaves.items)
    c.leaves_among-result.result
    (λ leaves are. has_leaves c.args.netlist.now c.args.stops.now c.args.start (take c.fill-end.result c.fill-end.new.met) leaves.items c.requires.start c.fill-end.ensures.each c.fill-end.ensures.all are)
    c.leaves_among-result.ensures.are

pub returns-clause-wide : goal.returns-clause-wide
returns-clause-wide c =
    err_then (λ wide. (all : List ℕ) × AreStops (stop_at c.args.stops.now) (take c.fill-end.result c.fill-end.new.met) all × (length all ≡ wide.count) × (16 < wide.count))
    (λ wide. (all : List ℕ) × HasLeaves c.args.netlist.now.gates c.args.stops.now c.args.start all × (length all ≡ wide.count) × (16 < wide.count))
    c.leaves_among-result.result
    (λ wide h. (h.0, has_leaves c.args.netlist.now c.args.stops.now c.args.start (take c.fill-end.result c.fill-end.new.met) h.0 c.requires.start c.fill-end.ensures.each c.fill-end.ensures.all h.1, h.2, h.3))
    c.leaves_among-result.ensures.wide
