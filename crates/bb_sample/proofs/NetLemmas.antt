-- Ranges of nets, and where the nets of a sample's vectors stand.
use Rattle.std.proofs.Common.{◌≡◌, ℕ, zero, suc, ◌+◌, ◌<◌, ◌≤◌, ◌==◌, nat_lt, Bool, true, false, List, ◌∷◌, ◌++◌, length, map, All, refl, ap, ◌∙◌, arith, if◌then◌else◌, length-append, add-zero}
use Rattle.std.proofs.lemmas.Bool.Decides.{nat_tests}
use Rattle.std.proofs.lemmas.List.Elements.{All-weaker, All-append}
use Rattle.std.proofs.lemmas.List.FromFn.{length-range_with_len}
use Rattle.std.specs.List.{range_with_len}
use Rattle.bb_base.specs.Net.{Gate, Flop, times, driven}
use Rattle.bb_base.proofs.TimesLemmas.{times_join, times_head, times_range_before, times_past}
use Rattle.bb_base.proofs.Lists.{map_join, map_twice}
use Rattle.bb_net.proofs.VariableLemmas.{range_in}
use Rattle.bb_sample.specs.Sample.{input_count, output_count, flop_count, net_count, gate_net, pool_size, pool_net, gate_at, buffer_at, flop_at, sample_netlist}

-- there are sixteen inputs
pub inputs_are : input_count ≡ 16
unfolding input_count
inputs_are = refl

-- numbers that count up from a base
pub counted : (base from n : ℕ) → map (λ j. base + j) (range_with_len from n) ≡ range_with_len (base + from) n
counted base from zero = refl
counted base from (suc n) =
    let e : base + (from + 1) ≡ base + from + 1 = omega arith in
    ap (λ ks. (base + from) ∷ ks) (counted base (from + 1) n ∙ ap (λ k. range_with_len k n) e)

pub counted_up : (base n : ℕ) → map (λ j. base + j) (range_with_len 0 n) ≡ range_with_len base n
counted_up base n = counted base 0 n ∙ ap (λ k. range_with_len k n) (add-zero base)

-- the numbers of a range
pub range_below : (from n : ℕ) → All (λ m. m < from + n) (range_with_len from n)
range_below from n = All-weaker (λ m. (from ≤ m) × (m < from + n)) (λ m. m < from + n) (λ m h. h.1) (range_with_len from n) (range_in from (from + n) from n (omega arith) (omega arith))

pub range_under : (from n high : ℕ) → from + n ≤ high → All (λ m. m < high) (range_with_len from n)
range_under from n high low = All-weaker (λ m. m < from + n) (λ m. m < high) (λ m less. omega (arith, less, low)) (range_with_len from n) (range_below from n)

-- a number stands once in a range that reaches over it, and not in one before it
pub times_range_behind : (net from n : ℕ) → from + n ≤ net → times net (range_with_len from n) ≡ 0
times_range_behind net from n past = times_past net (range_with_len from n) (from + n) past (range_below from n)

pub times_range_over : (net from n : ℕ) → from ≤ net → net < from + n → times net (range_with_len from n) ≡ 1
times_range_over net from zero low high = absurd (omega (arith, low, high))
times_range_over net from (suc n) low high = by (from == net) refl (λ above. times_range_over net (from + 1) n above (omega (arith, high)))
  where
    by : (b : Bool) → (from == net) ≡ b → (from + 1 ≤ net → times net (range_with_len (from + 1) n) ≡ 1) → times net (range_with_len from (suc n)) ≡ 1
    by true e rest =
        let none = times_range_before net (from + 1) n (grind (arith, nat_tests, e)) in
        let one = times_head net from (range_with_len (from + 1) n) in
        grind (arith, nat_tests)
    by false e rest =
        let more = rest (grind (arith, nat_tests, e, low)) in
        let one = times_head net from (range_with_len (from + 1) n) in
        grind (arith, nat_tests)

-- what a sample drives, over any sizes: inputs, gates, outputs, flip-flops
abbrev pub driven_ranges : ℕ → ℕ → ℕ → ℕ → List ℕ
driven_ranges w t f n = range_with_len 0 w ++ ((range_with_len (w + t + f) n ++ range_with_len w t) ++ range_with_len (w + t) f)

pub driven_long : (w t f n : ℕ) → length (driven_ranges w t f n) ≡ w + t + f + n
driven_long w t f n =
    let one = length-append (range_with_len 0 w) ((range_with_len (w + t + f) n ++ range_with_len w t) ++ range_with_len (w + t) f) in
    let two = length-append (range_with_len (w + t + f) n ++ range_with_len w t) (range_with_len (w + t) f) in
    let three = length-append (range_with_len (w + t + f) n) (range_with_len w t) in
    omega (arith, one, two, three, length-range_with_len 0 w, length-range_with_len (w + t + f) n, length-range_with_len w t, length-range_with_len (w + t) f)

-- each net stands there once
pub driven_once : (w t f n net : ℕ) → net < w + t + f + n → times net (driven_ranges w t f n) ≡ 1
driven_once w t f n net within = by (nat_lt net w) refl (nat_lt net (w + t)) refl (nat_lt net (w + t + f)) refl
  where
    sums : times net (driven_ranges w t f n)
        ≡ times net (range_with_len 0 w) + ((times net (range_with_len (w + t + f) n) + times net (range_with_len w t)) + times net (range_with_len (w + t) f))
    sums =
        let one = times_join net (range_with_len 0 w) ((range_with_len (w + t + f) n ++ range_with_len w t) ++ range_with_len (w + t) f) in
        let two = times_join net (range_with_len (w + t + f) n ++ range_with_len w t) (range_with_len (w + t) f) in
        let three = times_join net (range_with_len (w + t + f) n) (range_with_len w t) in
        omega (arith, one, two, three)

    by : (a : Bool) → nat_lt net w ≡ a → (b : Bool) → nat_lt net (w + t) ≡ b → (c : Bool) → nat_lt net (w + t + f) ≡ c → times net (driven_ranges w t f n) ≡ 1
    by true x b y c z =
        let less : net < w = grind (arith, nat_tests, x) in
        omega (arith, sums, times_range_over net 0 w (omega arith) (omega (arith, less)), times_range_before net (w + t + f) n (omega (arith, less)), times_range_before net w t less, times_range_before net (w + t) f (omega (arith, less)))
    by false x true y c z =
        let past : w ≤ net = grind (arith, nat_tests, x) in
        let less : net < w + t = grind (arith, nat_tests, y) in
        omega (arith, sums, times_range_behind net 0 w (omega (arith, past)), times_range_before net (w + t + f) n (omega (arith, less)), times_range_over net w t past less, times_range_before net (w + t) f less)
    by false x false y true z =
        let past : w + t ≤ net = grind (arith, nat_tests, y) in
        let less : net < w + t + f = grind (arith, nat_tests, z) in
        omega (arith, sums, times_range_behind net 0 w (omega (arith, past)), times_range_before net (w + t + f) n less, times_range_behind net w t past, times_range_over net (w + t) f past less)
    by false x false y false z =
        let past : w + t + f ≤ net = grind (arith, nat_tests, z) in
        omega (arith, sums, times_range_behind net 0 w (omega (arith, past)), times_range_over net (w + t + f) n past within, times_range_behind net w t (omega (arith, past)), times_range_behind net (w + t) f past)

-- and they are below the number of nets
pub driven_below : (w t f n : ℕ) → All (λ net. net < w + t + f + n) (driven_ranges w t f n)
driven_below w t f n =
    let P : ℕ → Type 0 = λ net. net < w + t + f + n in
    All-append P (range_with_len 0 w) _ (range_under 0 w (w + t + f + n) (omega arith))
    (All-append P (range_with_len (w + t + f) n ++ range_with_len w t) (range_with_len (w + t) f)
    (All-append P (range_with_len (w + t + f) n) (range_with_len w t) (range_under (w + t + f) n (w + t + f + n) (omega arith)) (range_under w t (w + t + f + n) (omega arith)))
    (range_under (w + t) f (w + t + f + n) (omega arith)))

-- that is what a sample drives
pub sample_driven : (number : ℕ) → driven (sample_netlist number) ≡ driven_ranges input_count (output_count number) (flop_count number) number
sample_driven number =
    let w = input_count in
    let t = output_count number in
    let f = flop_count number in
    let out : Gate ℕ → ℕ = λ g. g.out in
    let q : Flop ℕ → ℕ = λ p. p.q in
    let gates : map out (map (gate_at number) (range_with_len 0 number)) ≡ range_with_len (w + t + f) number = map_twice out (gate_at number) (range_with_len 0 number) ∙ counted_up (w + t + f) number in
    let outputs : map out (map (buffer_at number) (range_with_len 0 t)) ≡ range_with_len w t = map_twice out (buffer_at number) (range_with_len 0 t) ∙ counted_up w t in
    let states : map q (map (flop_at number) (range_with_len 0 f)) ≡ range_with_len (w + t) f = map_twice q (flop_at number) (range_with_len 0 f) ∙ counted_up (w + t) f in
    let both = map_join out (map (gate_at number) (range_with_len 0 number)) (map (buffer_at number) (range_with_len 0 t)) in
    ap (λ outs. range_with_len 0 w ++ (outs ++ map q (map (flop_at number) (range_with_len 0 f)))) both ∙ (λ i. range_with_len 0 w ++ ((gates i ++ outputs i) ++ states i))

-- a net that gate j may read comes before its output
pool_under : (w t f j place : ℕ) → place < w + f + j → (if nat_lt place w then place else place + t) < w + t + f + j
pool_under w t f j place within = by (nat_lt place w) refl
  where
    by : (b : Bool) → nat_lt place w ≡ b → (if b then place else place + t) < w + t + f + j
    by true e = let less : place < w = grind (arith, nat_tests, e) in omega (arith, less)
    by false e = omega (arith, within)

pub pool_before : (number j place : ℕ) → place < pool_size number j → pool_net number place < gate_net number j
pool_before number j place within = pool_under input_count (output_count number) (flop_count number) j place within

pub gate_stands : (number place : ℕ) → place < number → gate_net number place < net_count number
gate_stands number place within = stands (input_count + output_count number + flop_count number) number place within
  where
    stands : (base n p : ℕ) → p < n → base + p < base + n
    stands base n p h = omega (arith, h)
