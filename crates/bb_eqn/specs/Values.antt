-- The bits of all nets in a list.
use Rattle.std.specs.Prelude.{ℕ, Bool, false, List, slice_index_or}

-- the bit of a net in a list of the bits of all nets
abbrev pub bits_at : List Bool → ℕ → Bool
bits_at values net = slice_index_or values net false
