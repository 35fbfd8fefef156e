-- The numbers that a sample is drawn with: a linear congruential generator modulo 2 ^ 32, which begins at the sample's number.
use Rattle.std.specs.Prelude.{ℕ, zero, suc, ◌+◌, ◌*◌, ◌/◌, ◌%◌, ◌^◌}

-- the state after another
abbrev pub generator_step : ℕ → ℕ
generator_step state = (1103515245 * state + 12345) % 2 ^ 32

-- the state after so many draws
unfoldable pub generator_after : ℕ → ℕ → ℕ
generator_after number zero = number
generator_after number (suc k) = generator_step (generator_after number k)

-- what a state gives below a bound, from its bits above the lowest eight
abbrev pub drawn : ℕ → ℕ → ℕ
drawn state bound = state / 256 % bound

-- draw k below a bound, counted from 0
abbrev pub draw : ℕ → ℕ → ℕ → ℕ
draw number k bound = drawn (generator_after number (k + 1)) bound
