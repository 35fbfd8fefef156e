-- Bit names, and where they are found.
use Rattle.std.proofs.Common.{◌≡◌, ℕ, true, List, Some, position, slice_get, get_or, sym, ap, ◌∙◌, arith}
use Rattle.std.proofs.lemmas.Bool.Decides.{nat_tests}
use Rattle.std.proofs.lemmas.Option.{slice_get-get_or}
use Rattle.std.proofs.lemmas.List.Quantifiers.{position-Some}
use Rattle.bb_base.specs.declared.variable.BitName.{BitName}
use Rattle.bb_base.specs.Variables.{bit_eq}
pub use Rattle.bb_base.proofs.Contained.{contains_at}

-- bit names that pass the test are one
pub same_bits : (a b : BitName) → bit_eq a b ≡ true → a ≡ b
same_bits a b h =
    let variable : a.variable ≡ b.variable = grind (arith, nat_tests) in
    let place : a.place ≡ b.place = grind (arith, nat_tests) in
    λ i. record { variable = variable i; place = place i }

pub bit_eq_itself : (a : BitName) → bit_eq a a ≡ true
bit_eq_itself a = grind (arith, nat_tests)

-- the place that a search gives has the bit
pub found_bit : (names : List BitName) (bit : BitName) (i : ℕ) → position (bit_eq bit) names ≡ Some i → slice_get names i ≡ Some bit
found_bit names bit i h =
    let at = position-Some (bit_eq bit) names i bit h in
    slice_get-get_or names i bit at.0 ∙ ap Some (sym (same_bits bit (get_or names i bit) at.1))
