-- Where the bits of variables stand among all bits.
use Rattle.std.proofs.Common.{◌≡◌, ◌⊎◌, inl, inr, ℕ, ◌+◌, ◌<◌, zero, suc, nat_eq, ◌||◌, List, [], ◌∷◌, ◌++◌, Bool, true, false, if◌then◌else◌, refl, sym, ◌∙◌, arith}
use Rattle.std.proofs.lemmas.Bool.Decides.{nat_tests}
use Rattle.std.proofs.lemmas.List.Folds.{list_any-append}
use Rattle.std.specs.List.{range_with_len}
use Rattle.bb_base.specs.declared.variable.Role.{Role}
use Rattle.bb_base.specs.Variables.{Entry, range_width, bit_count}
use Rattle.bb_drive.specs.Nets.{bits_from, has_bit}

pub or_split : (a b : Bool) → (a || b) ≡ true → (a ≡ true) ⊎ (b ≡ true)
or_split true b h = inl refl
or_split false b h = inr h

-- a bit of a range is below its end
pub range_in : (from n b : ℕ) → has_bit (range_with_len from n) b ≡ true → b < from + n
range_in from zero b h = cc
range_in from (suc n) b h = by (nat_eq b from) refl h (range_in (from + 1) n b)
  where
    by : (t : Bool) → nat_eq b from ≡ t → (t || has_bit (range_with_len (from + 1) n) b) ≡ true → (has_bit (range_with_len (from + 1) n) b ≡ true → b < from + 1 + n) → b < from + suc n
    by true e k rec = let same : b ≡ from = grind (arith, nat_tests) in omega arith
    by false e k rec = omega (arith, rec k)

-- the bits of variables are below their count
pub bits_in : (passes : Role → Bool) (first : ℕ) (vs : List Entry) (b : ℕ) → has_bit (bits_from passes first vs) b ≡ true → b < first + bit_count vs
bits_in passes first [] b h = cc
bits_in passes first (v ∷ vs) b h = by (passes v.1.role) h (bits_in passes (first + range_width v.1.range) vs b)
  where
    by : (t : Bool) → has_bit ((if t then range_with_len first (range_width v.1.range) else []) ++ bits_from passes (first + range_width v.1.range) vs) b ≡ true
        → (has_bit (bits_from passes (first + range_width v.1.range) vs) b ≡ true → b < first + range_width v.1.range + bit_count vs) → b < first + (range_width v.1.range + bit_count vs)
    by false k rec = omega (arith, rec k)
    by true k rec =
        here (or_split (has_bit (range_with_len first (range_width v.1.range)) b) (has_bit (bits_from passes (first + range_width v.1.range) vs) b)
        (sym (list_any-append (nat_eq b) (range_with_len first (range_width v.1.range)) (bits_from passes (first + range_width v.1.range) vs)) ∙ k))
      where
        here : (has_bit (range_with_len first (range_width v.1.range)) b ≡ true) ⊎ (has_bit (bits_from passes (first + range_width v.1.range) vs) b ≡ true) → b < first + (range_width v.1.range + bit_count vs)
        here (inl l) = omega (arith, range_in first (range_width v.1.range) b l)
        here (inr l) = omega (arith, rec l)
