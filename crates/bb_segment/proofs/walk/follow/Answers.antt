use Rattle.std.proofs.Common.{arith, ◌∙◌, take, refl}
use Rattle.std.proofs.lemmas.List.{length-take-le}
use Rattle.bb_terms.specs.Support.{stop_at}
use Rattle.bb_segment.proofs.WalkLemmas.{walk_on, walk_ends, walk_first, met_within, end_low, front_at}
use Rattle.bb_base.proofs.Contained.{contains_at}
use Rattle.bb_segment.proofs.walk.follow.Goals as goal

pub places-init : goal.places-init
places-init c = record { long = refl; met = c.requires.met; within = omega arith; walk = walk_first c.args.netlist.now.gates (stop_at c.args.stops.now) (take c.args.end c.args.met.now) }

pub read_behind-inputs-requires-clause-few : goal.read_behind-inputs-requires-clause-few
read_behind-inputs-requires-clause-few c = let few = c.requires.met.few in let nets = c.requires.nets in omega (arith, few, nets)

pub read_behind-inputs-requires-clause-within : goal.read_behind-inputs-requires-clause-within
read_behind-inputs-requires-clause-within c =
    let met = c.places.invariant.met in
    let at = front_at c.places.met c.places.end c.places.next c.index-met-next.result c.places-test.true (end_low c.places.marks c.places.met c.places.end met) c.index-met-next.is in
    let inside = met_within c.places.marks c.places.met c.places.end c.index-met-next.result met (contains_at (take c.places.end c.places.met) c.places.next c.index-met-next.result at) in
    let long = c.places.invariant.long in
    let nets = c.requires.nets in
    omega (arith, inside, long, nets)

pub meet_all-end-requires-clause-within : goal.meet_all-end-requires-clause-within
meet_all-end-requires-clause-within c = λ net h.
    let inside = c.read_behind-inputs.ensures.within net h in
    let long = c.places.invariant.long in
    let nets = c.requires.nets in
    omega (arith, inside, long, nets)

pub places-preserved : goal.places-preserved
places-preserved c =
    let met = c.places.invariant.met in
    let more = c.meet_all-end.ensures.more in
    let at = front_at c.places.met c.places.end c.places.next c.index-met-next.result c.places-test.true (end_low c.places.marks c.places.met c.places.end met) c.index-met-next.is in
    record {
      long = c.meet_all-end.ensures.long ∙ c.places.invariant.long;
      met = c.meet_all-end.ensures.met;
      within = omega (arith, more, c.places-test.true);
      walk = walk_on c.args.netlist.now.gates (stop_at c.args.stops.now) (take c.args.end c.args.met.now) c.places.met c.meet_all-end.new.met c.places.end c.meet_all-end.result c.places.next c.index-met-next.result
          c.read_behind-inputs.result.now c.places.invariant.walk at c.places-test.true more c.meet_all-end.ensures.front c.meet_all-end.ensures.has c.read_behind-inputs.ensures.each c.read_behind-inputs.ensures.all;
    }

pub returns-clause-all : goal.returns-clause-all
returns-clause-all c =
    let low = length-take-le c.places.end c.places.met (end_low c.places.marks c.places.met c.places.end c.places.invariant.met) in
    walk_ends c.args.netlist.now.gates (stop_at c.args.stops.now) (take c.args.end c.args.met.now) (take c.places.end c.places.met) c.places.next c.places.invariant.walk (omega (arith, low, c.places-test.false))
