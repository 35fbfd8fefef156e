use Rattle.std.proofs.Common.{◌∙◌, arith, sym, ap, refl, subst, length}
use Rattle.bb_drive.specs.Origins.{entry_at, AreCopies}
use Rattle.bb_drive.proofs.OriginLaws.{entry_within}
use Rattle.bb_base.proofs.Lists.{whole_written}
use Rattle.bb_drive.proofs.LabelLaws.{spread_out, ok_then}
use Rattle.bb_drive.proofs.origins.spread.Goals as goal

pub spread_along-requires-clause-newest : goal.spread_along-requires-clause-newest
spread_along-requires-clause-newest c = λ b x h.
    let same = c.deref.ensures.value ∙ whole_written c.in_ok-newest.newest.len c.in_ok-newest.newest.items c.link_copies.new.newest (omega arith) (c.link_copies.auto.newest ∙ ap length c.deref_mut.ensures.value) in
    let f = c.link_copies.ensures.first b x (sym (ap (λ ns. entry_at ns b) same) ∙ h) in
    omega (arith, f.0, c.requires.long)

pub spread_along-requires-clause-older : goal.spread_along-requires-clause-older
spread_along-requires-clause-older c = λ b x h.
    let same = c.deref-2.ensures.value ∙ whole_written c.in_ok-older.older.len c.in_ok-older.older.items c.link_copies.new.older (omega arith) (c.link_copies.auto.older ∙ ap length c.deref_mut-2.ensures.value) in
    let n = c.link_copies.ensures.next b x (sym (ap (λ ns. entry_at ns b) same) ∙ h) in
    omega (arith, entry_within c.args.backs.now x n.source n.older, c.requires.long)

pub returns : goal.returns
returns c =
    let newest = c.deref.ensures.value ∙ whole_written c.in_ok-newest.newest.len c.in_ok-newest.newest.items c.link_copies.new.newest (omega arith) (c.link_copies.auto.newest ∙ ap length c.deref_mut.ensures.value) in
    let older = c.deref-2.ensures.value ∙ whole_written c.in_ok-older.older.len c.in_ok-older.older.items c.link_copies.new.older (omega arith) (c.link_copies.auto.older ∙ ap length c.deref_mut-2.ensures.value) in
    ok_then c.spread_along.result c.spread_along.ensures (λ labels all gates is.
    let are = spread_out gates c.args.backs.now c.deref.result.now c.deref-2.result.now c.args.roots.now c.requires.long is c.requires.inside c.requires.free
    (subst (λ ns. AreCopies c.args.backs.now (length c.args.backs.now) ns c.deref-2.result.now) (sym newest) (subst (AreCopies c.args.backs.now (length c.args.backs.now) c.link_copies.new.newest) (sym older) c.link_copies.ensures)) in
    all (record { roots = c.args.roots.now; gates = gates; backs = c.args.backs.now; newest = c.deref.result.now; older = c.deref-2.result.now }) are refl refl refl)
