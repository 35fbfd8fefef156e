-- The bits of the variables from one on.
use Rattle.std.proofs.Common.{arith, ◌≡◌, ℕ, zero, suc, ◌+◌, drop, slice_get, List, [], ◌∷◌, sym, ap, ◌∙◌}
use Rattle.std.specs.Prelude.{Some}
use Rattle.bb_base.specs.Variables.{Entry, range_width, bit_count}

-- bits from a place on
pub bits_next : (es : List Entry) (i : ℕ) (v : Entry) → slice_get es i ≡ Some v → bit_count (drop i es) ≡ range_width v.1.range + bit_count (drop (i + 1) es)
bits_next [] i v h = cc
bits_next (e ∷ es) zero v h = let same : e ≡ v = some_same e v h in ap (λ x. range_width x.1.range + bit_count es) same
  where
    some_same : (a b : Entry) → Some a ≡ Some b → a ≡ b
    some_same a b e = cc
bits_next (e ∷ es) (suc i) v h = let k : suc i + 1 ≡ suc (i + 1) = omega arith in bits_next es i v h ∙ ap (λ n. range_width v.1.range + bit_count (drop n (e ∷ es))) (sym k)
