-- What comes out of a chain: its last bit first, and 0 in the end.
use Rattle.std.specs.Prelude.{◌≡◌, ℕ, ◌-◌, ◌<◌, ◌≤◌, Bool, false, List, length, slice_index_or}
use Rattle.bb_terms.specs.OnBits.{last_of}
use Rattle.bb_testrun.specs.Held.{shifts}

pub record ComesOut (j : ℕ) (xs : List Bool) : Type 0 where
  pub bit : j < length xs → last_of false (shifts j xs) ≡ slice_index_or xs (length xs - 1 - j) false
  pub none : length xs ≤ j → last_of false (shifts j xs) ≡ false
