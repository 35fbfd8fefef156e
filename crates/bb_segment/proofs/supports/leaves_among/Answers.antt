use Rattle.std.proofs.Common.{sym, ◌∙◌, length, subst}
use Rattle.std.specs.List.Sorted.{IsPermutation}
use Rattle.bb_terms.specs.Support.{stop_at}
use Rattle.bb_segment.proofs.SetLemmas.{stops_listed, stops_sorted}
use Rattle.bb_segment.proofs.supports.leaves_among.Goals as goal

pub returns-then-count-gt16-clause-wide : goal.returns-then-count-gt16-clause-wide
returns-then-count-gt16-clause-wide c =
    let all = stops_listed (stop_at c.args.stops.now) c.args.nets.now (length c.args.stops.now) c.requires.apart c.requires.within in
    (all.0, all.1, all.2 ∙ sym c.count_stops-count.ensures, c.if-count-gt16.true)

pub returns-clause-are : goal.returns-clause-are
returns-clause-are c = stops_sorted (stop_at c.args.stops.now) c.args.nets.now c.ascending_nets.result.items c.requires.apart
    (subst (λ ns. IsPermutation ns c.ascending_nets.result.items) (c.deref_mut.ensures.value ∙ c.stops_among-among.ensures) c.ascending_nets.ensures.moved) c.ascending_nets.ensures.sorted
