-- A signature's step on numbers.
use Rattle.std.proofs.Common.{arith, ◌≡◌, ℕ, ◌+◌, ◌-◌, ◌*◌, ◌%◌, ◌^◌, ◌<◌, ◌≤◌, Bool, true, false, if◌then◌else◌, bit_and, bit_xor, refl, ap, ◌∙◌}
use Rattle.std.proofs.lemmas.Nat.{and_mask, pow_pos}
use lib.Bits.{xor_lt}
use mir.Val.{bool_byte}
use Rattle.bb_base.specs.Parity.{code_bit}
use Rattle.bb_terms.specs.Signature.{next_signature}
use Rattle.bb_gf2.proofs.WalkSteps.{size_is}

byte_of : (b : Bool) → bool_byte b ≡ (if b then 1 else 0)
byte_of true = refl
byte_of false = refl

-- the step of a signature by a mask
pub next_word : (k mask held lines taken : ℕ) (fed : Bool) → k ≤ 16 → fed ≡ code_bit mask held → taken ≡ bool_byte fed → bit_xor lines (bit_and (2 * held + taken) (1 * 2 ^ k % 2 ^ 32 - 1)) ≡ next_signature k mask held lines
next_word k mask held lines taken fed few code taken_is =
    let size = size_is k (omega (arith, few)) in
    let bit : taken ≡ (if code_bit mask held then 1 else 0) = taken_is ∙ byte_of fed ∙ ap (λ (b : Bool). if b then 1 else 0) code in
    ap (bit_xor lines) ((λ i. bit_and (2 * held + bit i) (size i - 1)) ∙ and_mask (2 * held + (if code_bit mask held then 1 else 0)) k)

-- stays within the register's length
pub next_below : (k mask held lines : ℕ) → lines < 2 ^ k → next_signature k mask held lines < 2 ^ k
next_below k mask held lines small = xor_lt k lines ((2 * held + (if code_bit mask held then 1 else 0)) % 2 ^ k) small (let some = pow_pos k in omega (arith, some))
