-- Numbers that are kept below a limit, and the bits of a constant's value.
use Rattle.std.proofs.Common.{◌≡◌, ℕ, zero, suc, ◌+◌, ◌*◌, ◌<◌, ◌≤◌, min, ◌/◌, ◌^◌, nat_lt, nat_eq, false, arith, ap, ◌∙◌, ◌⊎◌, inl, inr}
use Rattle.std.proofs.lemmas.Bool.{cases_lt}
use Rattle.bb_lex.specs.Machine.{constant_limit}
use Rattle.std.proofs.Math.Nat.{mul-le-mul_right, mul-le-mul_left, pow-le-pow_right, one-le-pow, div-eq_of_lt, lt-div-mul-add}
use Rattle.std.proofs.lemmas.Bool.Decides.{nat_tests}

-- one more digit of a number that is kept at the limit
pub capped_step : (limit n r d : ℕ) → 2 ≤ r → min (min n limit * r + d) limit ≡ min (n * r + d) limit
capped_step limit n r d h = by (cases_lt n limit)
  where
    by : (n < limit) ⊎ (limit ≤ n) → min (min n limit * r + d) limit ≡ min (n * r + d) limit
    by (inl lt) = let e : min n limit ≡ n = omega arith in ap (λ (x : ℕ). min (x * r + d) limit) e
    by (inr le) =
        let e : min n limit ≡ limit = omega arith in
        let p : limit * 2 ≤ limit * r = mul-le-mul_left limit h in
        let q : limit * r ≤ n * r = mul-le-mul_right r le in
        let z : min (limit * r + d) limit ≡ min (n * r + d) limit = omega arith in
        ap (λ (x : ℕ). min (x * r + d) limit) e ∙ z

-- nothing at the limit fits
pub none_fits : (s : ℕ) → nat_lt constant_limit (2 ^ min s 128) ≡ false
none_fits s = by (2 ^ min s 128) (let small : min s 128 ≤ 128 = omega arith in let p : 2 ^ min s 128 ≤ 2 ^ 128 = pow-le-pow_right (omega arith) small in p)
  where
    by : (p : ℕ) → p ≤ constant_limit → nat_lt constant_limit p ≡ false
    by p h = grind (arith, nat_tests)

-- no bits above the size
pub no_high : (v s : ℕ) → nat_eq (v / 2 ^ s) 0 ≡ nat_lt v (2 ^ s)
no_high v s = by (cases_lt v (2 ^ s))
  where
    pos : 1 ≤ 2 ^ s
    pos = one-le-pow s 2 (omega arith)

    yes : v < 2 ^ s → nat_eq 0 0 ≡ nat_lt v (2 ^ s)
    yes h = grind (arith, nat_tests)

    by : (v < 2 ^ s) ⊎ (2 ^ s ≤ v) → nat_eq (v / 2 ^ s) 0 ≡ nat_lt v (2 ^ s)
    by (inl lt) = ap (λ (x : ℕ). nat_eq x 0) (div-eq_of_lt lt) ∙ yes lt
    by (inr le) = above (v / 2 ^ s) (2 ^ s) (lt-div-mul-add pos) le
      where
        above : (q p : ℕ) → v < q * p + p → p ≤ v → nat_eq q 0 ≡ nat_lt v p
        above zero p h k = absurd (omega arith)
        above (suc q) p h k = grind (arith, nat_tests)
