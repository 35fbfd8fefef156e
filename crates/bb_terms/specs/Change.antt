-- Changes of gates that keep a cone combinational (McCluskey's class of faults): a changed gate is a table over its inputs.
use Rattle.std.specs.Prelude.{◌≡◌, ◌⊎◌, Bool, true, false, not, ◌&&◌, List, [], ◌∷◌, Option, None, Some, Contains}
use Rattle.std.specs.List.{list_any}
use Rattle.bb_base.specs.Net.{Gate}
use Rattle.bb_base.specs.Run.{by_op}
use Rattle.bb_base.specs.Booleans.{xor}

abbrev pub bits_eq : List Bool → List Bool → Bool
bits_eq [] [] = true
bits_eq [] (y ∷ ys) = false
bits_eq (x ∷ xs) [] = false
bits_eq (x ∷ xs) (y ∷ ys) = not (xor x y) && bits_eq xs ys

-- for the net of each changed gate the input vectors on which it gives 1
abbrev pub Change : Type 0 → Type 0
Change N = N → Option (List (List Bool))

abbrev pub by_table : Option (List (List Bool)) → List Bool → Bool → Bool
by_table None bits plain = plain
by_table (Some ones) bits plain = list_any (bits_eq bits) ones

-- what a gate gives under a change
abbrev pub gives_by : {N : Type 0} → Change N → Gate N → List Bool → Bool
gives_by f g bits = by_table (f g.out) bits (by_op g bits)

-- only these gates are changed
abbrev pub IsChangeOf : {N : Type 0} → List (Gate N) → Change N → Type 0
IsChangeOf {N} gates f = (net : N) → (f net ≡ None) ⊎ ((g : Gate N) × Contains gates g × (g.out ≡ net))
