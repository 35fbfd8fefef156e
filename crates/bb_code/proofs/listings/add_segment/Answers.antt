use Rattle.std.proofs.Common.{◌∙◌, get_or}
use Rattle.std.proofs.lemmas.List.{length-set}
use Rattle.bb_code.proofs.Turning.{places_written}
use Rattle.bb_code.proofs.listings.add_segment.Goals as goal

pub loop-source-preserved : goal.loop-source-preserved
loop-source-preserved c =
    let cur = c.loop-source.listings.items in
    let segment = c.args.segment.now in
    let i = c.loop-source.source-index in
    record {
      count = length-set cur (get_or segment i 0) c.push.new.self ∙ c.loop-source.invariant.count;
      places = places_written (λ places. places.items) c.args.listings.now.items cur c.push.new.self c.index_mut.result.now segment i c.args.place
          c.requires c.loop-source-test.true c.loop-source.invariant.count c.loop-source.invariant.places c.index_mut.ensures.value c.in_ok-push.ensures.items;
    }
