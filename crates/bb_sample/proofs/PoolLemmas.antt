-- What a gate may read, in order.
use Rattle.std.proofs.Common.{◌≡◌, ℕ, zero, suc, ◌+◌, ◌≤◌, nat_lt, Bool, true, false, ◌∷◌, ◌++◌, map, if◌then◌else◌, refl, sym, ap, ◌∙◌, arith, zero-add}
use Rattle.std.proofs.lemmas.Bool.Decides.{nat_tests}
use Rattle.std.specs.List.{range_with_len}
use Rattle.bb_base.proofs.Lists.{map_join}
use Rattle.bb_sample.specs.Sample.{input_count, output_count, flop_count, state_net, gate_net, pool_size, pool_net}
use Rattle.bb_sample.proofs.NetLemmas.{counted_up}

-- a range in two parts
range_parts : (from n m : ℕ) → range_with_len from (n + m) ≡ range_with_len from n ++ range_with_len (from + n) m
range_parts from zero m =
    let none : zero + m ≡ m = omega arith in
    let here : from ≡ from + zero = omega arith in
    ap (range_with_len from) none ∙ ap (λ k. range_with_len k m) here
range_parts from (suc n) m =
    let more : suc n + m ≡ suc (n + m) = omega arith in
    let here : from + 1 + n ≡ from + suc n = omega arith in
    ap (range_with_len from) more ∙ ap (λ ks. from ∷ ks) (range_parts (from + 1) n m ∙ ap (λ k. range_with_len (from + 1) n ++ range_with_len k m) here)

-- places of i are its nets, and those behind it are nets behind o
abbrev placed : ℕ → ℕ → ℕ → ℕ
placed w t place = if nat_lt place w then place else place + t

placed_front : (w t from n : ℕ) → from + n ≤ w → map (placed w t) (range_with_len from n) ≡ range_with_len from n
placed_front w t from zero within = refl
placed_front w t from (suc n) within =
    let test : nat_lt from w ≡ true = grind (arith, nat_tests, within) in
    let here : placed w t from ≡ from = ap (λ (b : Bool). if b then from else from + t) test in
    λ i. here i ∷ placed_front w t (from + 1) n (omega (arith, within)) i

placed_behind : (w t from n : ℕ) → w ≤ from → map (placed w t) (range_with_len from n) ≡ range_with_len (from + t) n
placed_behind w t from zero past = refl
placed_behind w t from (suc n) past =
    let test : nat_lt from w ≡ false = grind (arith, nat_tests, past) in
    let here : placed w t from ≡ from + t = ap (λ (b : Bool). if b then from else from + t) test in
    let next : from + 1 + t ≡ from + t + 1 = omega arith in
    λ i. here i ∷ (placed_behind w t (from + 1) n (omega (arith, past)) ∙ ap (λ k. range_with_len k n) next) i

in_order : (w t f j : ℕ) → map (placed w t) (range_with_len 0 (w + f + j)) ≡ range_with_len 0 w ++ (range_with_len (w + t) f ++ range_with_len (w + t + f) j)
in_order w t f j =
    let p : ℕ → ℕ = placed w t in
    let regroup : w + f + j ≡ w + (f + j) = omega arith in
    let parts : range_with_len 0 (w + f + j) ≡ range_with_len 0 w ++ (range_with_len w f ++ range_with_len (w + f) j) =
    ap (range_with_len 0) regroup ∙ range_parts 0 w (f + j) ∙ ap (λ k. range_with_len 0 w ++ range_with_len k (f + j)) (zero-add w) ∙ ap (λ ks. range_with_len 0 w ++ ks) (range_parts w f j) in
    let front : map p (range_with_len 0 w) ≡ range_with_len 0 w = placed_front w t 0 w (omega arith) in
    let middle : map p (range_with_len w f) ≡ range_with_len (w + t) f = placed_behind w t w f (omega arith) in
    let last : w + f + t ≡ w + t + f = omega arith in
    let back : map p (range_with_len (w + f) j) ≡ range_with_len (w + t + f) j = placed_behind w t (w + f) j (omega arith) ∙ ap (λ k. range_with_len k j) last in
    ap (map p) parts ∙ map_join p (range_with_len 0 w) (range_with_len w f ++ range_with_len (w + f) j) ∙ ap (λ ks. map p (range_with_len 0 w) ++ ks) (map_join p (range_with_len w f) (range_with_len (w + f) j))
    ∙ (λ i. front i ++ (middle i ++ back i))

pub pool_in_order : (number j : ℕ) → map (pool_net number) (range_with_len 0 (pool_size number j))
    ≡ range_with_len 0 input_count ++ (map (state_net number) (range_with_len 0 (flop_count number)) ++ map (gate_net number) (range_with_len 0 j))
pool_in_order number j =
    let w = input_count in
    let t = output_count number in
    let f = flop_count number in
    let states : map (state_net number) (range_with_len 0 f) ≡ range_with_len (w + t) f = counted_up (w + t) f in
    let gates : map (gate_net number) (range_with_len 0 j) ≡ range_with_len (w + t + f) j = counted_up (w + t + f) j in
    in_order w t f j ∙ (λ i. range_with_len 0 w ++ (sym states i ++ sym gates i))
