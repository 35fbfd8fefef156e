-- Words of rows that are filled one by one.
use Rattle.std.proofs.Common.{arith, ◌≡◌, ℕ, zero, suc, ◌+◌, ◌*◌, ◌^◌, ◌<◌, ◌≤◌, Bool, false, if◌then◌else◌, List, [], ◌∷◌, ◌++◌, length, map, take, get_or, set, refl, sym, ap, subst, ◌∙◌}
use Rattle.std.proofs.lemmas.List.{map_more, take_more_set, length-map}
use Rattle.bb_base.proofs.Lists.{map_join}
use Rattle.bb_base.specs.Bits.{from_bits}
use Rattle.bb_gf2.proofs.Pairing.{from_bits_below}
use Rattle.bb_eqn.specs.Lanes.{lane, in_lane}
use Rattle.bb_eqn.proofs.LaneLemmas.{lane_zero}

-- a word is as long as its list
pub word_below : {X : Type 0} (f : X → Bool) (xs : List X) → from_bits (map f xs) < 2 ^ length xs
word_below f xs = subst (λ n. from_bits (map f xs) < 2 ^ n) (length-map xs f) (from_bits_below (map f xs))

-- one row more beside one line more
pub rows_more : {X : Type 0} (f : ℕ → Bool) (g : X → Bool) (rows : List ℕ) (xs : List X) (place row : ℕ) (x : X) → place < length rows → place < length xs → x ≡ get_or xs place x → f row ≡ g x → map f (take place rows) ≡ map g (take place xs)
    → map f (take (place + 1) (set rows place row)) ≡ map g (take (place + 1) xs)
rows_more f g rows xs place row x less small is here so_far =
    ap (map f) (take_more_set rows place row less) ∙ (map_join f (take place rows) (row ∷ []) ∙ (ap (λ (bs : List Bool). bs ++ f row ∷ []) so_far
    ∙ (ap (λ (b : Bool). map g (take place xs) ++ b ∷ []) (here ∙ ap g is) ∙ sym (map_more g xs place x small))))

-- rows that are 0 behind others add nothing to the number
pub number_front : (t count : ℕ) (rows : List ℕ) → ((i : ℕ) → count ≤ i → get_or rows i 0 ≡ 0) → from_bits (in_lane t rows) ≡ from_bits (in_lane t (take count rows))
number_front t zero [] none = refl
number_front t (suc count) [] none = refl
number_front t zero (w ∷ rows) none =
    let first : lane t w ≡ false = ap (lane t) (none 0 (omega arith)) ∙ lane_zero t in
    (λ i. (if first i then 1 else 0) + 2 * number_front t zero rows (λ k near. none (suc k) (omega arith)) i)
number_front t (suc count) (w ∷ rows) none = ap (λ n. (if lane t w then 1 else 0) + 2 * n) (number_front t count rows (λ k near. none (suc k) (omega (arith, near))))
