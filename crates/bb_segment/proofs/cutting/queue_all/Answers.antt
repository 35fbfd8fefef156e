use Rattle.std.proofs.Common.{ℕ, List, sym, take, subst, get_or}
use Rattle.std.proofs.lemmas.List.{take_more}
use Rattle.bb_segment.specs.Walks.{HasMore}
use Rattle.bb_segment.proofs.TableLemmas.{insert_adds}
use Rattle.bb_segment.proofs.WalkLemmas.{met_then}
use Rattle.bb_segment.proofs.cutting.queue_all.Goals as goal

pub places-preserved : goal.places-preserved
places-preserved c =
    let place = get_or c.args.places.now c.places.place-index 0 in
    let list = take_more c.args.places.now c.places.place-index 0 c.places-test.true in
    let adds = insert_adds c.places.queue.keys c.insert.new.self.keys place c.in_ok-insert.ensures.keys in
    subst (λ (ns : List ℕ). HasMore c.args.queue.now.keys ns c.insert.new.self.keys) (sym list)
    (met_then c.args.queue.now.keys (take c.places.place-index c.args.places.now) c.places.queue.keys c.insert.new.self.keys place c.places.invariant adds)
