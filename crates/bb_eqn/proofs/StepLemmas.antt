-- One input more of a gate.
use Rattle.std.proofs.Common.{◌≡◌, ℕ, ◌+◌, ◌<◌, ◌≤◌, Bool, true, false, ◌&&◌, ◌||◌, List, [], ◌∷◌, length, map, drop, get_or, bit_and, bit_or, bit_xor, refl, sym, ap, ◌∙◌}
use Rattle.std.proofs.lemmas.List.{drop_more, drop_all}
use Rattle.bb_base.specs.Booleans.{xor, all_true, some_true, parity_of_bits}
use Rattle.bb_gf2.proofs.Xor.{xor_assoc_bits, xor_false_bits}
use Rattle.bb_eqn.specs.Values.{bits_at}
use Rattle.bb_eqn.specs.Lanes.{lane, in_lane}
use Rattle.bb_eqn.proofs.LaneLemmas.{lane_and, lane_or, lane_xor, bit_in_lane}

and_assoc : (a b c : Bool) → ((a && b) && c) ≡ (a && (b && c))
and_assoc true b c = refl
and_assoc false b c = refl

or_assoc : (a b c : Bool) → ((a || b) || c) ≡ (a || (b || c))
or_assoc true b c = refl
or_assoc false b c = refl

-- the bits of the nets from a place on
front : (t place net d : ℕ) (nets values : List ℕ) → place < length nets → net ≡ get_or nets place d → map (bits_at (in_lane t values)) (drop place nets) ≡ lane t (get_or values net 0) ∷ map (bits_at (in_lane t values)) (drop (place + 1) nets)
front t place net d nets values less is =
    ap (map (bits_at (in_lane t values))) (drop_more nets place d less) ∙ ap (λ n. bits_at (in_lane t values) n ∷ map (bits_at (in_lane t values)) (drop (place + 1) nets)) (sym is)
    ∙ ap (λ b. b ∷ map (bits_at (in_lane t values)) (drop (place + 1) nets)) (bit_in_lane t values net)

pub and_more : (t word place net d : ℕ) (nets values : List ℕ) (whole : Bool) → place < length nets → net ≡ get_or nets place d → (lane t word && all_true (map (bits_at (in_lane t values)) (drop place nets))) ≡ whole
    → (lane t (bit_and word (get_or values net 0)) && all_true (map (bits_at (in_lane t values)) (drop (place + 1) nets))) ≡ whole
and_more t word place net d nets values whole less is so_far =
    let rest = map (bits_at (in_lane t values)) (drop (place + 1) nets) in
    let w = get_or values net 0 in
    ap (λ b. b && all_true rest) (lane_and t word w) ∙ and_assoc (lane t word) (lane t w) (all_true rest)
    ∙ ap (λ bs. lane t word && all_true bs) (sym (front t place net d nets values less is)) ∙ so_far

pub or_more : (t word place net d : ℕ) (nets values : List ℕ) (whole : Bool) → place < length nets → net ≡ get_or nets place d → (lane t word || some_true (map (bits_at (in_lane t values)) (drop place nets))) ≡ whole
    → (lane t (bit_or word (get_or values net 0)) || some_true (map (bits_at (in_lane t values)) (drop (place + 1) nets))) ≡ whole
or_more t word place net d nets values whole less is so_far =
    let rest = map (bits_at (in_lane t values)) (drop (place + 1) nets) in
    let w = get_or values net 0 in
    ap (λ b. b || some_true rest) (lane_or t word w) ∙ or_assoc (lane t word) (lane t w) (some_true rest)
    ∙ ap (λ bs. lane t word || some_true bs) (sym (front t place net d nets values less is)) ∙ so_far

pub xor_more : (t word place net d : ℕ) (nets values : List ℕ) (whole : Bool) → place < length nets → net ≡ get_or nets place d → xor (lane t word) (parity_of_bits (map (bits_at (in_lane t values)) (drop place nets))) ≡ whole
    → xor (lane t (bit_xor word (get_or values net 0))) (parity_of_bits (map (bits_at (in_lane t values)) (drop (place + 1) nets))) ≡ whole
xor_more t word place net d nets values whole less is so_far =
    let rest = map (bits_at (in_lane t values)) (drop (place + 1) nets) in
    let w = get_or values net 0 in
    ap (λ b. xor b (parity_of_bits rest)) (lane_xor t word w) ∙ xor_assoc_bits (lane t word) (lane t w) (parity_of_bits rest)
    ∙ ap (λ bs. xor (lane t word) (parity_of_bits bs)) (sym (front t place net d nets values less is)) ∙ so_far

-- at the end of the nets
pub past : (t place : ℕ) (nets values : List ℕ) → length nets ≤ place → [] ≡ map (bits_at (in_lane t values)) (drop place nets)
past t place nets values none = ap (map (bits_at (in_lane t values))) (sym (drop_all place nets none))

pub and_end : (t word place : ℕ) (nets values : List ℕ) (whole : Bool) → length nets ≤ place → (lane t word && all_true (map (bits_at (in_lane t values)) (drop place nets))) ≡ whole → lane t word ≡ whole
and_end t word place nets values whole none so_far = sym (and_true (lane t word)) ∙ ap (λ bs. lane t word && all_true bs) (past t place nets values none) ∙ so_far
  where
    and_true : (b : Bool) → (b && true) ≡ b
    and_true true = refl
    and_true false = refl

pub or_end : (t word place : ℕ) (nets values : List ℕ) (whole : Bool) → length nets ≤ place → (lane t word || some_true (map (bits_at (in_lane t values)) (drop place nets))) ≡ whole → lane t word ≡ whole
or_end t word place nets values whole none so_far = sym (or_false (lane t word)) ∙ ap (λ bs. lane t word || some_true bs) (past t place nets values none) ∙ so_far
  where
    or_false : (b : Bool) → (b || false) ≡ b
    or_false true = refl
    or_false false = refl

pub xor_end : (t word place : ℕ) (nets values : List ℕ) (whole : Bool) → length nets ≤ place → xor (lane t word) (parity_of_bits (map (bits_at (in_lane t values)) (drop place nets))) ≡ whole → lane t word ≡ whole
xor_end t word place nets values whole none so_far = sym (xor_false_bits (lane t word)) ∙ ap (λ bs. xor (lane t word) (parity_of_bits bs)) (past t place nets values none) ∙ so_far
