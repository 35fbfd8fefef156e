-- Words whose bits are those of 64 cases, a case a lane.
use Rattle.std.specs.Prelude.{ℕ, ◌==◌, zero, suc, Bool, List, map}
use Rattle.std.specs.Int.{bit_at}
use Rattle.bb_terms.specs.Register.{next_state}

-- the bit of a word in a lane
abbrev pub lane : ℕ → ℕ → Bool
lane t word = bit_at word t == 1

-- the bits of words in a lane
abbrev pub in_lane : ℕ → List ℕ → List Bool
in_lane t words = map (lane t) words

-- the state of the complete register that is so many steps after another
unfoldable pub state_on : ℕ → ℕ → ℕ → ℕ → ℕ
state_on degree mask zero x = x
state_on degree mask (suc t) x = next_state degree mask (state_on degree mask t x)
