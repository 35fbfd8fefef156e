-- what comes out of a chain
use Rattle.std.proofs.Common.{◌≡◌, ℕ, ◌-◌, ◌<◌, zero, suc, List, [], ◌∷◌, length, get_or, Bool, false, refl, ap, ◌∙◌, arith}
use Rattle.bb_terms.specs.OnBits.{shifted, zeros}
use Rattle.bb_terms.specs.OnBits.{last_of}
use Rattle.bb_testrun.specs.Held.{shifts}
use Rattle.bb_testrun.specs.ComesOut.{ComesOut}
use Rattle.bb_testrun.proofs.Unloading.{shifts_out}

shifts_front : (j : ℕ) (x : Bool) (xs : List Bool) → shifts (suc j) (x ∷ xs) ≡ false ∷ shifts j (shifted x xs)
shifts_front zero x xs = refl
shifts_front (suc j) x xs = ap (shifted false) (shifts_front j x xs)

last_at : (x : Bool) (xs : List Bool) → last_of x xs ≡ get_or (x ∷ xs) (length xs) false
last_at x [] = refl
last_at x (y ∷ ys) = last_at y ys

at_shifted : (x : Bool) (xs : List Bool) (i : ℕ) → i < length xs → get_or (shifted x xs) i false ≡ get_or (x ∷ xs) i false
at_shifted x [] i h = absurd (omega (arith, h))
at_shifted x (y ∷ ys) zero h = refl
at_shifted x (y ∷ ys) (suc i) h = at_shifted y ys i (omega (arith, h))

length_shifted : (x : Bool) (bs : List Bool) → length (shifted x bs) ≡ length bs
length_shifted x [] = refl
length_shifted x (b ∷ bs) = ap suc (length_shifted b bs)

out_bit : (j : ℕ) (xs : List Bool) → j < length xs → last_of false (shifts j xs) ≡ get_or xs (length xs - 1 - j) false
out_bit j [] h = absurd (omega (arith, h))
out_bit zero (x ∷ xs) h = let e : length xs ≡ suc (length xs) - 1 - 0 = omega arith in last_at x xs ∙ ap (λ i. get_or (x ∷ xs) i false) e
out_bit (suc j) (x ∷ xs) h =
    let long : length (shifted x xs) ≡ length xs = length_shifted x xs in
    let rest = out_bit j (shifted x xs) (omega (arith, h, long)) in
    let e : length (shifted x xs) - 1 - j ≡ suc (length xs) - 1 - suc j = omega (arith, long) in
    let within : suc (length xs) - 1 - suc j < length xs = omega (arith, h) in
    ap (last_of false) (shifts_front j x xs) ∙ rest ∙ ap (λ i. get_or (shifted x xs) i false) e ∙ at_shifted x xs (suc (length xs) - 1 - suc j) within

last_zeros : (k : ℕ) → last_of false (zeros k) ≡ false
last_zeros zero = refl
last_zeros (suc k) = last_zeros k

pub comes_out : (j : ℕ) (xs : List Bool) → ComesOut j xs
comes_out j xs = record { bit = out_bit j xs; none = λ h. ap (last_of false) (shifts_out j xs h) ∙ last_zeros (length xs) }
