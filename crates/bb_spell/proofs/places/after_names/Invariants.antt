use Rattle.std.proofs.Common.{◌≡◌, length}
use Rattle.bb_spell.specs.Places.{after_names}
use Rattle.bb_spell.proofs.places.after_names.Given as goal

-- what follows the names to come is what follows all
abbrev pub invariant-names : goal.invariant-names
invariant-names l = after_names (length l.rest) l.rest ≡ after_names (length l.bytes) l.bytes

abbrev pub decreases-names : goal.decreases-names
decreases-names l = length l.rest
