use Rattle.std.proofs.Common.{◌≡◌, length}
use Rattle.bb_spell.specs.Lines.{front_bits, with_front}
use Rattle.bb_spell.proofs.statement.read_bits.Given as goal

-- the bits so far, with those to come, are those of all
abbrev pub invariant-bits : goal.invariant-bits
invariant-bits l = with_front l.bits.items (front_bits (length l.rest) l.rest) ≡ with_front l.fn.bits.items (front_bits (length l.bytes) l.bytes)

abbrev pub decreases-bits : goal.decreases-bits
decreases-bits l = length l.rest
