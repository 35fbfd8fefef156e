-- The options of a call. The table is this project's own.
use Rattle.std.specs.Prelude.{◌≤◌, ℕ, List, codes}
use Rattle.bb_words.specs.declared.setting.Setting.{Setting}
use Rattle.bb_words.specs.declared.setting.Setting.TheVariants.{Width, MinDegree, MaxDegree, MaxCycles, Register}

-- an option `--name`: the least and the greatest number that it takes, and the one that holds without it
pub record Row : Type 0 where
  pub name : List ℕ
  pub least : ℕ
  pub most : ℕ
  pub default : ℕ

-- the table of options, by what each sets
abbrev pub row_of : Setting → Row
row_of Width = record { name = codes "width"; least = 2; most = 12; default = 8 }
row_of MinDegree = record { name = codes "min-degree"; least = 1; most = 20; default = 1 }
row_of MaxDegree = record { name = codes "max-degree"; least = 1; most = 20; default = 16 }
row_of MaxCycles = record { name = codes "max-cycles"; least = 1; most = 1099511627776; default = 16777216 }
row_of Register = record { name = codes "register"; least = 1; most = 16; default = 8 }

-- a setting's place in the table
abbrev pub place_of : Setting → ℕ
place_of Width = 0
place_of MinDegree = 1
place_of MaxDegree = 2
place_of MaxCycles = 3
place_of Register = 4

-- a number that the option takes
abbrev pub IsInRange : Setting → ℕ → Type 0
IsInRange setting number = ((row_of setting).least ≤ number) × (number ≤ (row_of setting).most)
