-- Fit variables have few bits.
use Rattle.std.proofs.Common.{◌≡◌, None, List, [], ◌∷◌, length, refl, ap, arith}
use Rattle.std.specs.List.{All, AllByRecursion}
use Rattle.std.proofs.lemmas.List.Elements.{recursion_from_All}
use Rattle.bb_base.specs.Variables.{Entry, bit_count, range_width}
use Rattle.bb_ctl.specs.OwnNames.{IsOwnName}

-- a single bit, with a name that is not reserved or that of a made wire
abbrev pub IsFit : Entry → Type 0
IsFit v = IsOwnName v.0 × (v.1.range ≡ None)

count_by_recursion : (vs : List Entry) → AllByRecursion IsFit vs → bit_count vs ≡ length vs
count_by_recursion [] h = refl
count_by_recursion (v ∷ vs) h = omega (arith, ap range_width h.0.1, count_by_recursion vs h.1)

pub fit_few : (vs : List Entry) → All IsFit vs → bit_count vs ≡ length vs
fit_few vs h = count_by_recursion vs (recursion_from_All IsFit vs h)
