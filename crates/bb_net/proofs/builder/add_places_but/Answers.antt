use Rattle.bb_net.proofs.PlaceLemmas.{earlier_after}
use Rattle.bb_net.proofs.builder.add_places_but.Goals as goal

pub add_places-requires-in-Some-2-clause-fresh : goal.add_places-requires-in-Some-2-clause-fresh
add_places-requires-in-Some-2-clause-fresh c =
    earlier_after c.args.variable c.in-Some.place c.args.names.now.keys c.add_places-in-Some.new.names.keys c.requires.fresh c.in_ok-add_places-in-Some.ensures.ok
