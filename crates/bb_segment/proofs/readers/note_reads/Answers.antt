use Rattle.std.proofs.Common.{arith, ◌≡◌, ◌<◌, ◌⊎◌, sym, ap, ◌∙◌, take, length, subst, ◌++◌, ◌∷◌, [], Contains, slice_set, get_or}
use Rattle.std.proofs.lemmas.Grind.{common_steps}
use Rattle.std.proofs.lemmas.List.{take_more, take_all}
use Rattle.bb_segment.specs.Cutting.{table_entry}
use Rattle.bb_segment.proofs.WalkLemmas.{item_in}
use Rattle.bb_segment.proofs.TableLemmas.{Noted, noted_more, entry_read}
use Rattle.bb_segment.proofs.readers.note_reads.Goals as goal

pub bounds-readers-net-inside : goal.bounds-readers-net-inside
bounds-readers-net-inside c =
    let inside = c.requires c.net-item.result (item_in c.args.nets.now c.nets.net-index c.net-item.result c.nets-test.true c.net-item.is) in
    let long = c.nets.invariant.long in
    omega (arith, inside, c.net.view_is, long)

pub nets-preserved : goal.nets-preserved
nets-preserved c =
    let inside = c.requires c.net-item.result (item_in c.args.nets.now c.nets.net-index c.net-item.result c.nets-test.true c.net-item.is) in
    let long = c.nets.invariant.long in
    let less : c.net-item.result < length c.nets.readers = omega (arith, inside, long) in
    let list = take_more c.args.nets.now c.nets.net-index c.net-item.result c.nets-test.true ∙ ap (λ x. take c.nets.net-index c.args.nets.now ++ x ∷ []) (sym c.net-item.is) in
    let entry : c.note.new.self ≡ table_entry c.nets.readers c.net-item.result ++ c.args.place ∷ [] =
    c.in_ok-note.ensures ∙ ap (λ k. get_or c.nets.readers k c.index-readers-net.result ++ c.args.place ∷ []) c.net.view_is ∙ ap (λ e. e ++ c.args.place ∷ []) (entry_read c.nets.readers c.net-item.result c.index-readers-net.result less) in
    let h = noted_more c.args.readers.now c.nets.readers c.args.place (take c.nets.net-index c.args.nets.now) c.net-item.result c.note.new.self less entry
    (record { kept = c.nets.invariant.kept; noted = c.nets.invariant.noted; only = c.nets.invariant.only }) in
    let k = subst (λ i. Noted c.args.readers.now (slice_set c.nets.readers i c.note.new.self) c.args.place (take c.nets.net-index c.args.nets.now ++ c.net-item.result ∷ [])) (sym c.net.view_is) h in
    let m = subst (λ ns. Noted c.args.readers.now (slice_set c.nets.readers c.net.inside.0 c.note.new.self) c.args.place ns) (sym list) k in
    record { long = grind (arith, common_steps, long); kept = m.kept; noted = m.noted; only = m.only }

pub returns-clause-only : goal.returns-clause-only
returns-clause-only c = λ net p h.
    let all = take_all c.nets.net-index c.args.nets.now c.nets-test.false in
    subst (λ ns. Contains (table_entry c.args.readers.now net) p ⊎ ((p ≡ c.args.place) × Contains ns net)) all (c.nets.invariant.only net p h)
