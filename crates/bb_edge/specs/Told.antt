-- What a store or a sink tells of its contents, and how a call changes it (this project's own).
-- What is read is stated from equations, and what is written by `Shows`, so that who tells nothing meets every clause.
use Rattle.std.specs.Prelude.{◌≡◌, ◌≢◌, ◌↔◌, ◌⊎◌, ℕ, List, [], ◌++◌, Option, None, Some}

-- what a name holds: the store doesn't tell, no such file is there, or the file has these bytes
pub data Told : Type 0 where
  Untold : Told
  Absent : Told
  Held : (bytes : List ℕ) → Told

-- what is being read: nothing, a file whose rest isn't told, or a file with these bytes left
pub data BeingRead : Type 0 where
  Idle : BeingRead
  Unknown : BeingRead
  Left : (rest : List ℕ) → BeingRead

-- where it is told, the name holds this text
abbrev pub Shows : Told → List ℕ → Type 0
Shows Untold text = Unit {0}
Shows Absent text = ⊥
Shows (Held bytes) text = bytes ≡ text

-- something is being read
abbrev pub IsReading : BeingRead → Type 0
IsReading Idle = ⊥
IsReading Unknown = Unit {0}
IsReading (Left rest) = Unit {0}

-- the front of the rest was given, and nothing was given exactly at the end
pub record GivesFront (rest given left : List ℕ) : Type 0 where
  pub split : rest ≡ given ++ left
  pub at_end : (given ≡ []) ↔ (rest ≡ [])

-- the first list begins the second
abbrev pub IsPrefix : List ℕ → List ℕ → Type 0
IsPrefix front text = (rest : List ℕ) × (front ++ rest ≡ text)

-- what every other name holds stays as it was
abbrev pub SameBut : List ℕ → (List ℕ → Told) → (List ℕ → Told) → Type 0
SameBut name old new = (other : List ℕ) → other ≢ name → new other ≡ old other

-- where it is told, the name holds what it held and then these bytes
abbrev pub Extends : Told → Told → List ℕ → Type 0
Extends old new bytes = (text : List ℕ) → Shows old text → Shows new (text ++ bytes)

-- the name holds what it held, or nothing
abbrev pub KeepsOrEmpties : Told → Told → Type 0
KeepsOrEmpties old new = (new ≡ old) ⊎ Shows new []

-- where it is told, the name holds a front of what it held
abbrev pub Cuts : Told → Told → Type 0
Cuts old new = (text : List ℕ) → Shows old text → (front : List ℕ) × IsPrefix front text × Shows new front

-- after a write of a whole text that failed, the name holds what it held, or a front of the text
abbrev pub KeepsOrStarts : Told → Told → List ℕ → Type 0
KeepsOrStarts old new text = (new ≡ old) ⊎ ((front : List ℕ) × IsPrefix front text × Shows new front)

-- where they are told, the bytes that were put are the old ones and then all of these
abbrev pub AppendsAll : Option (List ℕ) → Option (List ℕ) → List ℕ → Type 0
AppendsAll None new bytes = Unit {0}
AppendsAll (Some old) new bytes = new ≡ Some (old ++ bytes)

-- where they are told, the bytes that were put are the old ones and then a front of these
abbrev pub AppendsFront : Option (List ℕ) → Option (List ℕ) → List ℕ → Type 0
AppendsFront None new bytes = Unit {0}
AppendsFront (Some old) new bytes = (front : List ℕ) × IsPrefix front bytes × (new ≡ Some (old ++ front))
