use Rattle.std.proofs.Common.{◌≡◌, ◌++◌, ◌∷◌, [], rules}
use Rattle.bb_net.proofs.ConsistentLemmas.{flop_added}
use Rattle.bb_net.proofs.builder.Builder.flop.Goals as goal

pub invariant_of-self-2 : goal.invariant_of-self-2
invariant_of-self-2 c =
    let added : c.push.new.self.items ≡ c.self.inside.flops.items ++ record { q = c.args.q; d = c.args.d } ∷ [] = search rules in
    let kept = c.self.invariant in
    (flop_added _ c.args.self.now c.args.q c.args.d c.push.new.self.items c.self.view_is kept.0 c.requires.q c.requires.d added, kept.1, kept.2, kept.3)
