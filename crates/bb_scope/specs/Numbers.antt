-- Where the bits of variables stand, as the code keeps it.
-- (No outcome rests on these: they serve contracts of inner calls and proofs.)
use Rattle.std.specs.Prelude.{◌≡◌, ℕ, ◌+◌, ◌<◌, ◌^◌, List, [], ◌∷◌, None}
use Rattle.bb_base.specs.Variables.{Entry, range_width, bit_count}
use Rattle.bb_scope.specs.declared.scope.Place.{Place}
use Rattle.bb_scope.specs.References.{range_in, first_number}

-- the first bit's number and the range of each variable, where the first one's bits begin at this number, and then of a scalar behind all others
abbrev pub places_from : ℕ → List Entry → List Place
places_from first [] = record { first = first; range = None } ∷ []
places_from first (v ∷ vs) = record { first = first; range = v.1.range } ∷ places_from (first + range_width v.1.range) vs

-- the first bit's number and the range of the variable of a name
abbrev pub place_of_name : List Entry → List ℕ → Place
place_of_name vars name = record { first = first_number vars name; range = range_in vars name }

-- the places are those of the variables, and one more bit has a number too
pub record ArePlaces (table : List Entry) (places : List Place) : Type 0 where
  pub all : places ≡ places_from 0 table
  pub few : bit_count table + 1 < 2 ^ 32
