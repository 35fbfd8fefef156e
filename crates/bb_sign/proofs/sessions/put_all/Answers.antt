use Rattle.std.proofs.Common.{arith, ◌≡◌, ◌<◌, length, map, set, refl, sym, ap, subst, ◌∙◌, slice_index, All}
use Rattle.std.specs.Vec.{with_items}
use Rattle.std.proofs.lemmas.List.{length-set, with_items_is}
use Rattle.bb_sign.proofs.SessionLemmas.{put_more, put_ahead, put_here}
use Rattle.bb_sign.proofs.sessions.put_all.Goals as goal

pub put_held-requires : goal.put_held-requires
put_held-requires c =
    let less : c.lists.place < length c.lists.lists.items = omega (arith, c.lists-test.true, c.len-place-end.ensures, c.lists.invariant.long, c.args.lists.now.ok) in
    subst (All (λ r. r < length c.args.held.now)) (sym (c.deref_mut.ensures.value ∙ ap (λ list. list.items) c.index_mut.ensures.value))
    (put_here (λ list. All (λ r. r < length c.args.held.now) list.items) c.lists.lists.items c.lists.place c.index_mut.result.now less c.lists.invariant.ahead)

pub lists-preserved : goal.lists-preserved
lists-preserved c =
    let less : c.lists.place < length c.lists.lists.items = omega (arith, c.lists-test.true, c.len-place-end.ensures, c.lists.invariant.long, c.args.lists.now.ok) in
    let x = with_items c.index_mut.result.now c.put_held.new.list in
    let held = slice_index c.args.held.now in
    let items : x.items ≡ c.put_held.new.list = with_items_is c.index_mut.result.now c.put_held.new.list (omega (arith, c.put_held.auto.list, ap length c.deref_mut.ensures.value, c.index_mut.result.now.ok)) in
    let same = items ∙ c.put_held.ensures ∙ ap (map held) (c.deref_mut.ensures.value ∙ ap (λ list. list.items) c.index_mut.ensures.value) in
    record {
      long = length-set c.lists.lists.items c.lists.place x ∙ c.lists.invariant.long;
      so_far = put_more (λ list. map held list.items) c.lists.lists.items (set c.lists.lists.items c.lists.place x) (map (λ list. map held list.items) c.args.lists.now.items) (λ list. list.items) c.lists.place x c.index_mut.result.now less same refl
          c.lists.invariant.so_far;
      ahead = put_ahead (λ list. All (λ r. r < length c.args.held.now) list.items) c.lists.lists.items (set c.lists.lists.items c.lists.place x) c.lists.place x less refl c.lists.invariant.ahead;
    }
