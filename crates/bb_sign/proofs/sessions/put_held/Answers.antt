use Rattle.std.proofs.Common.{arith, ◌<◌, length, map, set, get_or, refl, ◌∙◌, slice_index}
use Rattle.std.proofs.lemmas.List.{length-set}
use Rattle.bb_sign.proofs.SessionLemmas.{put_one, put_ahead}
use Rattle.bb_sign.proofs.sessions.put_held.Goals as goal

pub list-preserved : goal.list-preserved
list-preserved c =
    let x = get_or c.args.held.now (get_or c.list.list c.list.place 0) 0 in
    let less : c.list.place < length c.list.list = omega (arith, c.list-test.true, c.list.invariant.long) in
    record {
      long = length-set c.list.list c.list.place x ∙ c.list.invariant.long;
      so_far = put_one (slice_index c.args.held.now) c.list.list (map (slice_index c.args.held.now) c.args.list.now) c.list.place less c.list.invariant.so_far;
      ahead = put_ahead (λ r. r < length c.args.held.now) c.list.list (set c.list.list c.list.place x) c.list.place x less refl c.list.invariant.ahead;
    }
