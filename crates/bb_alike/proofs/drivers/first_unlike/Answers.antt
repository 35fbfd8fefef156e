use Rattle.std.proofs.Common.{arith, ◌≡◌, ◌<◌, length, subst, below_more}
use Rattle.std.proofs.lemmas.Option.{slice_get_within}
use Rattle.bb_base.specs.Places.{IsFirstWrong}
use Rattle.bb_net.specs.Sites.{site_of}
use Rattle.bb_alike.specs.Alike.{IsFedAlike}
use Rattle.bb_alike.proofs.ListLemmas.{not_both}
use Rattle.bb_alike.proofs.AlikeLemmas.{unlike_here}
use Rattle.bb_alike.proofs.drivers.first_unlike.Goals as goal

pub returns-then-not-is_alike-clause-first : goal.returns-then-not-is_alike-clause-first
returns-then-not-is_alike-clause-first c = λ net e.
    let w = c.args.woven.now in
    let b = c.args.written.now in
    let same : c.loop-net.net ≡ net = cc e in
    let less : c.loop-net.net < length w.names = omega arith in
    subst (IsFirstWrong w.names (λ m name. IsFedAlike w b (site_of w m))) same
    (unlike_here w b c.loop-net.net less c.loop-net.invariant (λ all. not_both c.is_alike.result (c.is_alike.ensures.1 all) c.if-not-is_alike.true))

pub loop-net-preserved : goal.loop-net-preserved
loop-net-preserved c =
    below_more (λ m. IsFedAlike c.args.woven.now c.args.written.now (site_of c.args.woven.now m)) c.loop-net.net c.loop-net.invariant (c.is_alike.ensures.0 c.if-not-is_alike.false)

pub returns-clause-none : goal.returns-clause-none
returns-clause-none c = λ e net name at.
    let within = slice_get_within c.args.woven.now.names net name at in
    let less : net < c.loop-net.net = omega arith in
    c.loop-net.invariant net less
