-- The variables that names stand for, by their places in the table: each use of a name in the text's order.
-- (No outcome rests on these: they serve contracts of inner calls and proofs.)
use Rattle.std.specs.Prelude.{◌≡◌, ℕ, List, [], ◌∷◌, ◌++◌, map, flat_map, length, take}
use Rattle.std.specs.List.{position_or_len}
use Rattle.std.specs.Map.{keys_of}
use Rattle.std.specs.Str.{bytes_eq}
use Rattle.bb_base.specs.Variables.{Entry}
use Rattle.bb_scope.specs.Names.{pin_names}
use Rattle.bb_scope.specs.Cells.{Pin}
use Rattle.bb_scope.specs.Said.{Table, with_said}

-- how many variables stand before the one of this name
abbrev pub index_in : List Entry → List ℕ → ℕ
index_in vars name = position_or_len (bytes_eq name) (keys_of vars)

-- the names in what pins are connected to
abbrev pub pins_names : List Pin → List (List ℕ)
pins_names pins = flat_map (λ p. pin_names p.1) pins

-- uses of these names, each by its variable
abbrev pub uses_of : List Entry → List (List ℕ) → List ℕ
uses_of vars names = map (index_in vars) names

-- the first of these uses are those of the names
pub record AreNext (vars : List Entry) (names : List (List ℕ)) (uses : List ℕ) : Type 0 where
  pub all : take (length names) uses ≡ uses_of vars names

-- the variables so far, and the uses so far
pub record Used : Type 0 where
  pub vars : List Entry
  pub uses : List ℕ

-- one more use: a new name's variable stands behind the others
abbrev pub with_use : Table → Used → List ℕ → Used
with_use said used name = record { vars = with_said said used.vars name; uses = used.uses ++ index_in used.vars name ∷ [] }
