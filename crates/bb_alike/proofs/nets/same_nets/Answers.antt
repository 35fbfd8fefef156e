use Rattle.std.proofs.Common.{arith, ◌∷◌, [], ℕ, List, Option, length, length-append, sym, ap, subst}
use Rattle.bb_base.specs.Places.{EachAt}
use Rattle.bb_net.specs.Sites.{site_of}
use Rattle.bb_alike.specs.Found.{IsNetAt}
use Rattle.bb_alike.proofs.ListLemmas.{each_push}
use Rattle.bb_alike.proofs.nets.same_nets.Goals as goal

pub loop-net-preserved : goal.loop-net-preserved
loop-net-preserved c =
    let old : List (Option ℕ) = c.loop-net.nets.items in
    let P : ℕ → Option ℕ → Type 0 = λ net found. IsNetAt c.args.within.now (site_of c.args.of.now net) found in
    record {
      long = omega (arith, ap length c.in_ok-push.ensures.items, length-append old (c.net_at.result ∷ []), c.loop-net.invariant.long);
      each = subst (λ (ks : List (Option ℕ)). EachAt ks P) (sym c.in_ok-push.ensures.items) (each_push P old c.net_at.result c.loop-net.invariant.each (subst (λ n. P n c.net_at.result) (sym c.loop-net.invariant.long) c.net_at.ensures));
    }
