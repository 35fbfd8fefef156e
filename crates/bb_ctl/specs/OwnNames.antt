-- Names of variables beside which the added nets can be named.
use Rattle.std.specs.Prelude.{◌≡◌, ℕ, ◌<◌, ◌^◌, true, List}
use Rattle.std.specs.List.{AllByRecursion}
use Rattle.bb_base.specs.OwnNames.{is_reserved, made_name}
use Rattle.bb_base.specs.Named.{Named}

-- a name that begins as this project's own is that of a made wire
abbrev pub IsOwnName : List ℕ → Type 0
IsOwnName name = is_reserved name ≡ true → (k : ℕ) × (k < 2 ^ 32) × (name ≡ made_name k)

abbrev pub HasOwnNames : Named → Type 0
HasOwnNames a = AllByRecursion (λ v. IsOwnName v.0) a.variables
