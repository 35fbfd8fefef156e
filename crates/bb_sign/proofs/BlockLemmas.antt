-- States in blocks of 64.
use Rattle.std.proofs.Common.{arith, ◌≡◌, ℕ, ◌+◌, ◌-◌, ◌*◌, ◌<◌, ◌≤◌, min}
use Rattle.std.specs.Int.{div_ceil}

-- a block begins before the last state
pub block_within : (states block : ℕ) → block < div_ceil states 64 → 64 * block < states
block_within states block less = grind (arith, less)

-- where the block behind it begins
pub block_more : (states block : ℕ) → 64 * block < states → min (64 * block) states + min (states - 64 * block) 64 ≡ min (64 * (block + 1)) states
block_more states block less = grind (arith, less)

-- behind the last block all states are done
pub block_end : (states block : ℕ) → div_ceil states 64 ≤ block → min (64 * block) states ≡ states
block_end states block past = grind (arith, past)
