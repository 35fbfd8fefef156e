-- Sizes of values and of what steps leave.
use Rattle.std.proofs.Common.{arith, ◌≡◌, ℕ, suc, ◌+◌, ◌-◌, ◌<◌, List, ◌∷◌, take, drop, ap}
use Rattle.bb_scope.specs.declared.size.Size.{Size}
use Rattle.bb_scope.specs.Sizes.{total}

one_less : (n k : ℕ) → k < n → n - k ≡ suc (n - (k + 1))
one_less n k h = omega (arith, h)

-- of the values to take, one is taken
pub drop_next : (n k : ℕ) (a : Size) (stack : List Size) → k < n → drop (n - k) (a ∷ stack) ≡ drop (n - (k + 1)) stack
drop_next n k a stack h = ap (λ m. drop m (a ∷ stack)) (one_less n k h)

pub nets_next : (n k : ℕ) (a : Size) (stack : List Size) → k < n → (total (take (n - k) (a ∷ stack))).nets ≡ a.nets + (total (take (n - (k + 1)) stack)).nets
nets_next n k a stack h = ap (λ m. (total (take m (a ∷ stack))).nets) (one_less n k h)

pub constants_next : (n k : ℕ) (a : Size) (stack : List Size) → k < n → (total (take (n - k) (a ∷ stack))).constants ≡ a.constants + (total (take (n - (k + 1)) stack)).constants
constants_next n k a stack h = ap (λ m. (total (take m (a ∷ stack))).constants) (one_less n k h)
