use Rattle.std.proofs.Common.{map, string_bytes, length}
use Rattle.bb_words.specs.Parts.{HasSaid}
use Rattle.bb_words.proofs.said.said_in.Given as goal

abbrev pub invariant-pieces : goal.invariant-pieces
invariant-pieces l = HasSaid (map (λ w. string_bytes w) l.fn.words) l.said (map (λ w. string_bytes w) l.rest)

abbrev pub decreases-pieces : goal.decreases-pieces
decreases-pieces l = length l.rest
