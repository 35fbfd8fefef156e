use Rattle.std.proofs.Common.{◌≡◌, ◌++◌, ◌∷◌, [], rules}
use Rattle.bb_net.proofs.PlaceLemmas.{nets_more}
use Rattle.bb_net.proofs.builder.add_nets.Goals as goal

pub loop-net-preserved : goal.loop-net-preserved
loop-net-preserved c =
    let added : c.push.new.self.items ≡ c.loop-net.nets.items ++ c.loop-net.net ∷ [] = search rules in
    nets_more c.args.nets.now.items c.loop-net.nets.items c.push.new.self.items c.args.first c.loop-net.net c.loop-net.auto.net c.loop-net.invariant added
