use Rattle.std.proofs.Common.{◌≡◌, ◌++◌, ◌∷◌, []}
use Rattle.bb_base.specs.Variables.{bit_at}
use Rattle.bb_net.proofs.PlaceLemmas.{bits_more, bit_pushed, still_earlier}
use Rattle.bb_net.proofs.builder.add_places.Goals as goal

pub loop-place-preserved : goal.loop-place-preserved
loop-place-preserved c =
    let added : c.insert.new.self.keys ≡ c.loop-place.names.keys ++ bit_at c.args.variable c.loop-place.place ∷ [] =
    bit_pushed c.args.variable c.loop-place.place c.loop-place.names.keys c.insert.new.self.keys c.loop-place.invariant.fresh c.in_ok-insert.ensures.keys in
    record {
      made = bits_more c.args.variable c.args.names.now.keys c.loop-place.names.keys c.insert.new.self.keys c.args.first c.loop-place.place c.loop-place.auto.place c.loop-place.invariant.made added;
      fresh = still_earlier c.args.variable c.loop-place.place c.loop-place.names.keys c.insert.new.self.keys c.loop-place.invariant.fresh added;
    }
