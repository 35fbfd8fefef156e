-- Marks of bits that are driven once so far, below the first that is driven twice.
-- (No outcome rests on these: they serve contracts of inner calls and proofs.)
use Rattle.std.specs.Prelude.{ℕ, nat_lt, Bool, true, false, List, replicate, get_or, slice_set, if◌then◌else◌}

-- a mark for each bit, and the first bit that is driven twice, or their number
pub record Marked : Type 0 where
  pub marks : List Bool
  pub least : ℕ

-- so many bits without a mark
abbrev pub unmarked : ℕ → Marked
unmarked count = record { marks = replicate count false; least = count }

-- a bit that is driven once more; those from the first that is driven twice on need no marks
abbrev pub with_mark : Marked → ℕ → Marked
with_mark m bit =
    if nat_lt bit m.least
    then (if get_or m.marks bit false then record { marks = m.marks; least = bit } else record { marks = slice_set m.marks bit true; least = m.least })
    else m
