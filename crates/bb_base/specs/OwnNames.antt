-- Names of this project's own: no text that is compiled has one.
use Rattle.std.specs.Prelude.{ℕ, nat_eq, Bool, List, ◌++◌, codes, decimal}
use Rattle.std.specs.List.{starts_with}

-- begins with `bt_`
abbrev pub is_reserved : List ℕ → Bool
is_reserved name = starts_with nat_eq name (codes "bt_")

-- the name of the made wire of this number
abbrev pub made_name : ℕ → List ℕ
made_name k = codes "bt_w" ++ decimal k
