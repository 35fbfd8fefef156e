use Rattle.std.proofs.Common.{◌≡◌, take}
use Rattle.bb_base.specs.Bits.{from_bits}
use Rattle.bb_base.specs.Parity.{code_word}
use Rattle.bb_gf2.proofs.parities.code_mask.Given as goal

abbrev pub invariant-loop-place : goal.invariant-loop-place
invariant-loop-place l = l.mask ≡ from_bits (code_word (take l.place l.columns) l.state)
