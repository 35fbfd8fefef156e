-- A text that only grows.
use Rattle.std.proofs.Common.{◌≡◌, ℕ, ◌≤◌, List, ◌++◌, length, take, ap, ◌∙◌, arith, length-take}
use Rattle.std.proofs.lemmas.List.{take-append-le}
use Rattle.bb_spell.specs.Canonical.{GrowsFrom}

keeps_length : (old mid : List ℕ) → GrowsFrom old mid → length old ≤ length mid
keeps_length old mid h = omega (arith, ap length h, length-take (length old) mid)

pub keeps_more : (old mid new x : List ℕ) → new ≡ mid ++ x → GrowsFrom old mid → GrowsFrom old new
keeps_more old mid new x e h = ap (take (length old)) e ∙ take-append-le (length old) mid x (keeps_length old mid h) ∙ h
