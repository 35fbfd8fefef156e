-- The lengths of registers that have no mask.
use Rattle.std.proofs.Common.{arith, ◌≡◌, ℕ, ◌<◌, ◌≤◌, ◌+◌, Bool, true, false, List, ◌++◌, ◌∷◌, [], length, refl, sym, subst, ◌∙◌, inl, Contains, slice_index, nat_lt, ◌==◌}
use Rattle.std.specs.List.{AllByRecursion}
use Rattle.std.proofs.lemmas.Bool.Decides.{nat_tests}
use Rattle.bb_base.specs.Firsts.{IsLeast}
use Rattle.bb_base.proofs.Contained.{of_all, to_all}
use Rattle.bb_terms.specs.Plan.{RegisterValue}
use Rattle.std.proofs.lemmas.Grind.{common_steps}
use Rattle.bb_terms.specs.Register.{IsFullMask}
use Rattle.bb_choose.specs.Choice.{HasFullMask, IsUnmasked, IsFirstUnmasked}
use Rattle.bb_choose.specs.Coding.{HasLength}

-- a register of this length, and no mask
pub unmasked : (registers : List RegisterValue) (cells : ℕ) → HasLength registers cells → (HasFullMask cells → ⊥) → IsUnmasked registers cells
unmasked registers cells h none = record { register = h.0; stands = h.1; long = h.2; none = none }

-- the first length that lacks a mask is the least
pub least_unmasked : (registers : List RegisterValue) (cells : ℕ) → AllByRecursion (λ g. 1 ≤ length g.cells) registers → ((k : ℕ) → 1 ≤ k → k < cells → IsUnmasked registers k → ⊥) → IsUnmasked registers cells → IsLeast (IsUnmasked registers) cells
least_unmasked registers cells some before h = record { holds = h; least = least }
  where
    least : (m : ℕ) → IsUnmasked registers m → cells ≤ m
    least m u = by (nat_lt m cells) refl
      where
        by : (b : Bool) → nat_lt m cells ≡ b → cells ≤ m
        by false e = grind (arith, nat_tests, e)
        by true e =
            let low : m < cells = grind (arith, nat_tests, e) in
            let one = of_all (λ (g : RegisterValue). 1 ≤ length g.cells) registers u.register some u.stands in
            let long = u.long in
            absurd (before m (omega (arith, one, long)) low u)

-- one more mask
pub masks_more :
    (registers : List RegisterValue) (masks new : List ℕ) (cells mask : ℕ) → length masks ≡ cells → new ≡ masks ++ mask ∷ []
    → ((k : ℕ) → 1 ≤ k → k < cells → HasLength registers k → IsLeast (IsFullMask k) (slice_index masks k)) → (HasLength registers cells → IsLeast (IsFullMask cells) mask)
    → (k : ℕ) → 1 ≤ k → k < cells + 1 → HasLength registers k → IsLeast (IsFullMask k) (slice_index new k)
masks_more registers masks new cells mask long is before last k some few h = by (k == cells) refl
  where
    by : (b : Bool) → (k == cells) ≡ b → IsLeast (IsFullMask k) (slice_index new k)
    by true e =
        let same : cells ≡ k = grind (arith, nat_tests, e) in
        let item : mask ≡ slice_index new k = grind (arith, common_steps, is, long, same) in
        subst (IsLeast (IsFullMask k)) item (subst (λ n. IsLeast (IsFullMask n) mask) same (last (subst (HasLength registers) (sym same) h)))
    by false e =
        let low : k < cells = grind (arith, nat_tests, e, few) in
        let item : slice_index masks k ≡ slice_index new k = grind (arith, common_steps, is, long, low) in
        subst (IsLeast (IsFullMask k)) item (before k some low h)

pub before_more :
    (registers : List RegisterValue) (cells mask : ℕ) → ((k : ℕ) → 1 ≤ k → k < cells → IsUnmasked registers k → ⊥) → (HasLength registers cells → IsLeast (IsFullMask cells) mask)
    → (k : ℕ) → 1 ≤ k → k < cells + 1 → IsUnmasked registers k → ⊥
before_more registers cells mask before last k some few u = by (k == cells) refl
  where
    by : (b : Bool) → (k == cells) ≡ b → ⊥
    by true e =
        let same : k ≡ cells = grind (arith, nat_tests, e) in
        let least = last (u.register, u.stands, u.long ∙ same) in
        u.none (mask, subst (λ n. IsFullMask n mask) (sym same) least.holds)
    by false e = before k some (grind (arith, nat_tests, e, few)) u

-- each register's mask
pub masks_each :
    (registers : List RegisterValue) (masks : List ℕ) → AllByRecursion (λ g. 1 ≤ length g.cells) registers → AllByRecursion (λ g. length g.cells ≤ 16) registers
    → ((k : ℕ) → 1 ≤ k → k < 17 → HasLength registers k → IsLeast (IsFullMask k) (slice_index masks k)) → AllByRecursion (λ g. IsLeast (IsFullMask (length g.cells)) (slice_index masks (length g.cells))) registers
masks_each registers masks some few h = to_all (λ (g : RegisterValue). IsLeast (IsFullMask (length g.cells)) (slice_index masks (length g.cells))) registers one
  where
    one : (g : RegisterValue) → Contains registers g → IsLeast (IsFullMask (length g.cells)) (slice_index masks (length g.cells))
    one g c =
        let low = of_all (λ (g : RegisterValue). 1 ≤ length g.cells) registers g some c in
        let high = of_all (λ (g : RegisterValue). length g.cells ≤ 16) registers g few c in
        h (length g.cells) low (omega (arith, high)) (g, c, refl)

-- the degree lacks a mask, or else a register does
pub degree_first : (degree cells : ℕ) (registers : List RegisterValue) → cells ≡ degree → ((mask : ℕ) → IsFullMask degree mask → ⊥) → IsFirstUnmasked degree registers cells
degree_first degree cells registers same none = inl (same, λ m. none m.0 m.1)
