-- First answers: faults are tried one after the other.
use Rattle.std.specs.Prelude.{List, [], ◌∷◌, ◌++◌, Bool, Option, Some, None, if◌then◌else◌}
use Rattle.std.specs.Option.{option_or}

-- the first answer along a list
abbrev pub first_answer : {A B : Type 0} → (A → Option B) → List A → Option B
first_answer f [] = None
first_answer f (x ∷ xs) = option_or (f x) (first_answer f xs)

-- the first item that the test finds behind those before it
abbrev pub first_behind : {A : Type 0} → (List A → A → Bool) → List A → List A → Option A
first_behind test before [] = None
first_behind test before (x ∷ xs) = if test before x then Some x else first_behind test (before ++ x ∷ []) xs

-- what f gives of an answer, and else the other
abbrev pub on_some : {A B : Type 0} → Option A → B → (A → B) → B
on_some None other f = other
on_some (Some a) other f = f a
