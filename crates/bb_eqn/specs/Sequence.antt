-- Gates that can be evaluated one after another.
use Rattle.std.specs.Prelude.{◌≡◌, ℕ, List, [], ◌∷◌}
use Rattle.std.specs.List.{AllByRecursion}
use Rattle.bb_base.specs.Net.{Gate}
use Rattle.bb_base.specs.Order.{drivers}

-- no gate reads what it or a later one drives, and no two drive one net
abbrev pub WriteFirst : List (Gate ℕ) → Type 0
WriteFirst [] = Unit {0}
WriteFirst (g ∷ gates) = AllByRecursion (λ net. drivers (g ∷ gates) net ≡ []) g.ins × (drivers gates g.out ≡ []) × WriteFirst gates
